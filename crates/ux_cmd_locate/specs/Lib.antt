pub mod Indexes
pub mod Laws
pub mod Locate
pub mod Reading
