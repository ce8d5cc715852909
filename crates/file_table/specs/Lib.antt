-- The file table by columns, which tables a start takes, and what those have.
pub mod Table
pub mod TableLaws
pub mod Accepted
pub mod Files
