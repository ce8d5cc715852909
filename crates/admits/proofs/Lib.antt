-- The laws that other crates and the proofs cite.
pub mod AdmitLaws
pub mod ByteLaws
pub mod DirLaws
pub mod RefusalLaws
pub mod RootLaws
pub mod SearchLaws
pub mod ZeroLaws
