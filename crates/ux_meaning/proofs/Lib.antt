pub mod Levels
pub mod Renaming
mod RenamingExamples
