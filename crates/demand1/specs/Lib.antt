-- Demand 1: a sound state, what a taken sector changes, the statement over the definition of a whole call, and its proof.
pub mod Sound
pub mod StageChanges
pub mod Changes
pub mod Demand1
