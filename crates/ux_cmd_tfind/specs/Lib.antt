pub mod Files
pub mod Laws
pub mod Lines
pub mod Reading
pub mod Refusing
pub mod Tfind
