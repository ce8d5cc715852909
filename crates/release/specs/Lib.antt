-- How a session is released.
pub mod Undecided
pub mod Release
pub mod ReleaseLaws
pub mod Notes
