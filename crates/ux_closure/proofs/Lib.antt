pub mod ClosureLaws
mod Results
mod PutLemmas
pub mod Adding
mod Stepping
mod Falling
mod Rounds
mod PassingExamples
