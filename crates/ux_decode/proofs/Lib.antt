pub mod CharLemmas
mod Examples
pub mod FrontLemmas
pub mod SpellsLemmas
pub mod UniqueLemmas
