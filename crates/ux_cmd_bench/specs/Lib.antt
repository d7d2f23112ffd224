pub mod MadeText
pub mod Summaries
pub mod Bench
pub mod Compiled
pub mod Counted
