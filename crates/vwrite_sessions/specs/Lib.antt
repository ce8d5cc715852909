-- What the calls of a session that a firmware links answer and leave.
pub mod Calls
