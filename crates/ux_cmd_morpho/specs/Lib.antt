pub mod Answering
pub mod Reading
pub mod Files
pub mod Going
pub mod Testing
pub mod Laws
pub mod Morpho
