pub mod Ending
mod RunningExamples
