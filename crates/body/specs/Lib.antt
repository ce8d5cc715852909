-- The check of an update file's body.
pub mod Body
pub mod BodyLaws
pub mod Summed
pub mod LoopLaws
