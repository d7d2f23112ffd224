pub mod Answering
pub mod IgnoredLemmas
