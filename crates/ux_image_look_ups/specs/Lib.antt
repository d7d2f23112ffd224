pub mod Ways
pub mod Places
pub mod Steps
pub mod Spelling
pub mod Longest
