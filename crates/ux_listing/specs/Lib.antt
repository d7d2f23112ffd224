pub mod Sets
pub mod Moves
pub mod Runs
pub mod Walking
pub mod Groups
pub mod Reaching
pub mod Marking
