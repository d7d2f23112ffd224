pub mod Applied
pub mod Concord
