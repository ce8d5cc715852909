-- Demand 1 of the calls beside `write`.
pub mod Ends
pub mod Demand1
