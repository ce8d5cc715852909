-- Lines of text: their numbers, hex bytes and words.
pub mod Digits
pub mod Words
pub mod DigitLaws
