mod Examples
pub mod FieldLemmas
pub mod SetLemmas
pub mod ListLemmas
pub mod DepthLemmas
pub mod ReachedLemmas
pub mod ShortestLemmas
pub mod SumLemmas
pub mod FieldLaws
pub mod ListLaws
pub mod ImageLaws
