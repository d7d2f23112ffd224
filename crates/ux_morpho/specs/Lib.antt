pub mod Analysers
pub mod Analyses
pub mod Putting
