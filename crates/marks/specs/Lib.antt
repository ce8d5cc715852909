-- What a write does to a file's four marks. To be read: Seen, Kept, Does, and the statements
-- that end WriteMarks, with what they name there; the rest are laws and proofs.
pub mod Seen
pub mod Kept
pub mod Does
