pub mod ChangedLaws
pub mod BlockLaws
pub mod EntryLaws
pub mod GatherLaws
pub mod Passed
