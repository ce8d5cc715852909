-- The laws that other crates and the proofs cite.
pub mod DirMarks
pub mod DoesLaws
pub mod FatMarks
pub mod KeptLaws
pub mod StageMarks
pub mod WriteMarks
