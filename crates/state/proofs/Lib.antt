-- The laws that other crates and the proofs cite.
pub mod CountLaws
pub mod LookupLaws
pub mod SetPairLaws
