pub mod Masks
pub mod Tags
pub mod Files
pub mod Reading
pub mod Spelling
pub mod Inner
