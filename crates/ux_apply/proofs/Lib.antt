mod Examples
pub mod NamesLemmas
pub mod ZipLemmas
pub mod FoundLemmas
pub mod CursorLemmas
pub mod OnceLemmas
pub mod NothingLemmas
pub mod FirstLemmas
pub mod CompoundLemmas
pub mod OwnLemmas
pub mod SpanLemmas
pub mod StartLemmas
pub mod RowLemmas
pub mod UnknownLemmas
pub mod PairsLemmas
pub mod BelongingLemmas
pub mod KeptLemmas
pub mod OneTableLaws
