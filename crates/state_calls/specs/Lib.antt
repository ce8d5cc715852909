-- The answers of the calls that only read.
pub mod Answers
