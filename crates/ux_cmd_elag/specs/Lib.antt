pub mod Elag
pub mod Files
pub mod Laws
pub mod Reading
pub mod Ruling
