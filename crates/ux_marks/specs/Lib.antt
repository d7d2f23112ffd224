pub mod Marks
pub mod Meeting
