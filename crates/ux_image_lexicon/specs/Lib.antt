pub mod Told
pub mod Places
pub mod Walking
pub mod Counting
pub mod Summing
