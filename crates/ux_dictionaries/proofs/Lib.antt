pub mod DictionaryLaws
pub mod PriorityLemmas
pub mod TextLaws
pub mod TextSteps
