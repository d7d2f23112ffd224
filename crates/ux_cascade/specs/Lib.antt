pub mod Rewriting
pub mod Cascades
pub mod Refusing
pub mod Trace
