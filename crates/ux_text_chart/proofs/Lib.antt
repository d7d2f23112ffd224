pub mod LeadingLemmas
pub mod PartIndexLemmas
pub mod StateIndexLemmas
pub mod LikelyLemmas
pub mod AlikeLemmas
pub mod NetTablesLemmas
