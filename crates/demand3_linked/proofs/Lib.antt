-- The laws that other crates and the proofs cite.
pub mod LinkLaws
pub mod RowLaws
pub mod Theorem
