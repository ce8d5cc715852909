-- What is kept up from call to call is what demand 3 says of the calls.
pub mod Told
