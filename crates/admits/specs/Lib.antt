-- Which sectors the rules admit and with which number they refuse the others, and that `write` does so.
pub mod Bytes
pub mod Admits
pub mod Refusals
