-- Demand 1 along every list of calls: the statement and its proof.
pub mod Along
