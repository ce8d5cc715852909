-- Demand 3: one theorem about every list of calls.
pub mod Step
pub mod History
