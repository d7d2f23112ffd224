pub mod Runs
pub mod Order
pub mod Built
pub mod SentencePaths
pub mod Candidates
pub mod DictionaryPaths
