-- The hosts' own files and directories, told by prefixes of their names.
pub mod Housekeeping
pub mod EndToEnd
