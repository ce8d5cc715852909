-- The laws that the proofs cite.
pub mod SearchLaws
pub mod ApartLaws
