-- How data written to a host cluster is staged.
pub mod Blocks
pub mod Staging
pub mod Lent
pub mod BlockLaws
pub mod AreaLaws
pub mod CopyLaws
pub mod FillLaws
pub mod MoveLaws
