-- The laws that other crates and the proofs cite.
pub mod EndsLaws
pub mod HandedLaws
pub mod NamedLaws
pub mod SettingLaws
