pub mod Classes
pub mod Files
pub mod Inflect
pub mod Inflecting
pub mod Laws
pub mod Reading
