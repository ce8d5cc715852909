-- How a written sector is judged by its place.
pub mod Classify
pub mod JudgeLaws
