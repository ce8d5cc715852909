-- The lines of the calls that may end the session.
pub mod Ends
pub mod EndLaws
