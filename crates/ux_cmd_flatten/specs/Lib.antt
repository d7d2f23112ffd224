pub mod Flatten
pub mod Laws
pub mod Reading
pub mod Refusing
