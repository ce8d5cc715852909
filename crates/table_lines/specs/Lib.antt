-- The lines of the table.
pub mod Rows
pub mod RowLaws
