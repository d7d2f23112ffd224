pub mod CheckingLemmas
pub mod ClosingLemmas
pub mod ComponentsLemmas
pub mod EdgeRulesLemmas
mod Examples
pub mod GroupingLemmas
pub mod GroupsLemmas
pub mod MarkingLemmas
pub mod MarksLemmas
pub mod PathsLemmas
pub mod StepLemmas
pub mod UsesLemmas
pub mod VisitLemmas
