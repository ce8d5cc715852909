-- Demand 3 of the calls that a firmware links.
pub mod Linked
