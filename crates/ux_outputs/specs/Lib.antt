pub mod Variables
pub mod Rendering
pub mod Following
pub mod Kept
