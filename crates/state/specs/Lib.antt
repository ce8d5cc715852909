-- The session's state, its setters, and what is looked up in it.
pub mod State
pub mod Setters
pub mod Pairs
pub mod Staged
pub mod Queries
pub mod PairLaws
