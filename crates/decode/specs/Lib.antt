-- How a block of an update file is decoded.
pub mod Decode
pub mod DecodeLaws
