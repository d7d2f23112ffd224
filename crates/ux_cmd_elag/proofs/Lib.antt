pub mod ElagSteps
pub mod ReadingLemmas
pub mod RuledLemmas
pub mod RulingLemmas
pub mod StopLemmas
