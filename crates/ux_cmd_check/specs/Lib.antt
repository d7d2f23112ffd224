pub mod Check
pub mod Counting
pub mod Entries
pub mod Laws
