pub mod Running
pub mod Ahead
pub mod Marked
mod Deduped
mod Mapped
mod OrderingLemmas
mod PartsLemmas
