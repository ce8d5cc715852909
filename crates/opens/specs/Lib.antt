-- Which taken sectors open the session, and that these are the ones that do.
pub mod Opens
