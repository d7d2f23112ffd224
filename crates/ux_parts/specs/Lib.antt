pub mod Runs
pub mod Ordered
pub mod Parts
pub mod Order
