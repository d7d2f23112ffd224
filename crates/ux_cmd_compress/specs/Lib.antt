pub mod Compress
pub mod Contents
pub mod Laws
