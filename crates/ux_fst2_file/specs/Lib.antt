pub mod Fields
pub mod Lines
pub mod Files
pub mod Refusals
pub mod Labels
pub mod Printed
pub mod Reading
