-- The lookups of vdisk.rs as definitions, and their laws.
pub mod Drive
pub mod Ids
pub mod Owner
pub mod DriveLaws
pub mod IdLaws
pub mod OwnerLaws
