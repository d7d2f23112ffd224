pub mod Depths
pub mod Copies
pub mod Cuts
pub mod Flattening
pub mod Making
pub mod Paths
pub mod Negative
pub mod Cutting
