-- The laws that other crates and the proofs cite.
pub mod EndLaws
pub mod EndTestLaws
pub mod Theorem
