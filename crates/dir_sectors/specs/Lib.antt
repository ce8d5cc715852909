-- How a written sector of a generated directory is judged.
pub mod Dir
pub mod Turned
pub mod DirLaws
