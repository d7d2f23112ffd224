pub mod Inputs
pub mod Meaning
pub mod Contexts
pub mod Texts
