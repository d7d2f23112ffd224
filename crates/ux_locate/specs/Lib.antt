pub mod Hits
pub mod Policies
pub mod Index
pub mod Spans
pub mod Finding
pub mod Keeping
pub mod Order
