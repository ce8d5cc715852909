-- `write` as a whole: which sectors are judged, and what a judged one leaves.
pub mod Write
pub mod WriteLaws
