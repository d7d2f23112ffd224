pub mod Cases
pub mod Matching
pub mod Readings
pub mod Usable
