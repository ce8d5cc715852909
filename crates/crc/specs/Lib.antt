-- The update file's CRC.
pub mod Crc
pub mod CrcLaws
