-- How a written FAT sector is judged.
pub mod Values
pub mod Fat
pub mod NamedValues
pub mod FatLaws
pub mod Gathered
