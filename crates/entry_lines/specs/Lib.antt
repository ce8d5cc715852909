-- The lines that the entry listing reads.
pub mod EntryLines
pub mod EntryLaws
