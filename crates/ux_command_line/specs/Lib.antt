pub mod Tables
pub mod Settings
pub mod Words
pub mod Arguments
pub mod Steps
pub mod Requests
pub mod Writing
pub mod Matching
