-- Chains of the host's files.
pub mod Chains
pub mod Needed
pub mod Walk
pub mod WalkLaws
pub mod ChainLaws
