-- The laws that other crates and the proofs cite.
pub mod PrefixLaws
pub mod ByteLaws
