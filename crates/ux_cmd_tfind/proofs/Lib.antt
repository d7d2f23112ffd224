pub mod FindingLemmas
pub mod PrintingLemmas
pub mod TfindSteps
