pub mod CompilingLemmas
pub mod DrawingLemmas
pub mod GrammarLaws
pub mod GrammarRefusedOnce
pub mod GraphRefusals
pub mod GraphRefusedOnce
mod MaskRefusedOnce
mod NamingExamples
pub mod ReadingLemmas
pub mod SameStates
pub mod StatesRefusedOnce
pub mod TableLemmas
