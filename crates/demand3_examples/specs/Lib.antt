-- One file in lists of calls, computed.
pub mod Setting
pub mod Calls
