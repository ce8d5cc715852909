-- The calls that make a session.
pub mod Poll
pub mod Sessions
pub mod PollLaws
pub mod SessionLaws
pub mod Calls
