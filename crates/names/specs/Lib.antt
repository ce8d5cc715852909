-- Names of root slots: the entries of a long name, its text, the short name.
pub mod Names
pub mod Held
pub mod NameLaws
pub mod TextLaws
pub mod Agree
