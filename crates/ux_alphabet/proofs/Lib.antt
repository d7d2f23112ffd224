pub mod AnyLemmas
pub mod BlankLemmas
mod Examples
pub mod FileLemmas
pub mod LineLemmas
pub mod PairLemmas
pub mod SpanLemmas
pub mod TableLemmas
pub mod UpperFormLemmas
