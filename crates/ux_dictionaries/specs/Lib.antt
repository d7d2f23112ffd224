pub mod Dictionaries
pub mod Texts
