-- What the calls that a firmware links answer and leave.
pub mod Calls
