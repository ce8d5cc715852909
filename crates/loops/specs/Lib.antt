-- Loops over numbers as definitions, the laws that a loop's proof cites, and laws of tests.
pub mod Loops
pub mod Tests
pub mod Sought
pub mod Choices
pub mod Facts
pub mod Found
pub mod Rows
pub mod Keyed
pub mod Marks
