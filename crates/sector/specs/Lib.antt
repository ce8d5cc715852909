-- What is read of a sector's bytes, and the laws of it.
pub mod Bytes
pub mod Laws
