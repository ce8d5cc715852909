-- The host's records in the root.
pub mod Records
pub mod RecordLaws
