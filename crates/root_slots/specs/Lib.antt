-- Which host slots of the root are admitted, and the strict name.
pub mod OrLaws
pub mod RootSlots
