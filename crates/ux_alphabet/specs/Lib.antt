pub mod File
pub mod Letters
pub mod Spans
pub mod Tables
