pub mod WayLemmas
pub mod EndLemmas
pub mod PathLemmas
pub mod FoundLemmas
pub mod PlaceLemmas
pub mod StepLemmas
pub mod SpellingLemmas
pub mod LongestLemmas
