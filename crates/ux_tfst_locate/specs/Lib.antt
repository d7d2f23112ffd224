pub mod Bases
pub mod Inputs
pub mod Lattices
pub mod Listing
pub mod Reaching
pub mod Spans
pub mod Sought
