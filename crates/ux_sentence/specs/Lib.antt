pub mod Files
pub mod Openings
pub mod Passages
pub mod Paths
pub mod Places
pub mod Readings
pub mod Valid
pub mod Written
