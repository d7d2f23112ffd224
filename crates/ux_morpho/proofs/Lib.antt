pub mod AnalysesLemmas
pub mod FewLemmas
pub mod LineLemmas
pub mod PuttingLemmas
