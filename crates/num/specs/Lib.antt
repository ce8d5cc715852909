-- Counts that go round.
pub mod Num
