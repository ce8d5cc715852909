-- The laws that other crates and the proofs cite.
pub mod NoteLaws
pub mod WaitLaws
pub mod FileNotes
