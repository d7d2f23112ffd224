pub mod CharactersLemmas
pub mod ContextLemmas
pub mod EndsLemmas
pub mod LinesLemmas
pub mod LyingLemmas
pub mod OrderLemmas
pub mod SplitLemmas
pub mod WidthLemmas
