-- The entries of the entry listing, each a FAT write.
pub mod EntryWrite
pub mod Listing
pub mod EntryWriteLaws
pub mod ListingLaws
