-- Directory slots: their fields, dates and turns, and which files they name.
pub mod Text
pub mod Slots
pub mod SlotLaws
pub mod RangeLaws
