pub mod Passing
pub mod Holding
pub mod Taking
pub mod Meeting
