-- A sector of a host cluster is staged.
pub mod Meets
