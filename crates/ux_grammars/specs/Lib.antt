pub mod Graphs
pub mod Naming
pub mod Reading
pub mod Sources
