-- What the calls answer and leave that tell why a file is handed.
pub mod Calls
