mod Examples
pub mod FollowingLemmas
pub mod IgnoredLemmas
pub mod KeptLemmas
pub mod NamesLemmas
pub mod RenderLemmas
pub mod TableLemmas
pub mod TakeLemmas
pub mod TakesLemmas
pub mod TakingLemmas
pub mod TextLemmas
