pub mod Reached
pub mod Any
