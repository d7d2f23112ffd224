pub mod Tables
pub mod Rows
pub mod Likely
pub mod Alike
pub mod Places
pub mod ClosingStates
pub mod Search
pub mod Prepared
