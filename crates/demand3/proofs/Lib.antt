-- The laws that other crates and the proofs cite.
pub mod EitherLaws
pub mod EndLaws
pub mod Induct
pub mod Releases
pub mod Theorem
