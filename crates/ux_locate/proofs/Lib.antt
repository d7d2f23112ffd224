pub mod AfterLemmas
pub mod BeginLemmas
pub mod BestLemmas
pub mod ByChartLemmas
pub mod CutLaws
pub mod EndsLemmas
pub mod FirstEndsLemmas
pub mod FoundLemmas
pub mod FreshLemmas
pub mod HitLemmas
mod IndexExamples
pub mod IndexLemmas
pub mod KeepingLemmas
pub mod KeptLemmas
pub mod OrderLemmas
pub mod OverLemmas
pub mod PassLemmas
mod PolicyExamples
pub mod PolicyLaws
pub mod SpanLemmas
pub mod StartLemmas
