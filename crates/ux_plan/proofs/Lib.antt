pub mod Decoded
mod Examples
pub mod FileNameLemmas
pub mod Growing
pub mod InTurn
pub mod OneStop
pub mod PlanLaws
pub mod PlanSteps
