-- The lines of written sectors.
pub mod Writes
pub mod WriteLaws
