-- The laws that other crates may cite.
pub mod TurnedDown
