-- Bits of a number, and their laws.
pub mod Bit
pub mod Laws
pub mod Xor
