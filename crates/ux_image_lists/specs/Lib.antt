pub mod Fields
pub mod Lists
pub mod Shortest
pub mod Depths
pub mod Sizes
pub mod Summing
pub mod Images
