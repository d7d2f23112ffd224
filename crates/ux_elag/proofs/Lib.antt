pub mod CodesLemmas
mod RanksLemmas
pub mod Named
pub mod NamedPaths
pub mod Leaving
pub mod Satisfying
pub mod StepsLemmas
pub mod KindsLemmas
pub mod ShownLemmas
pub mod LinksLemmas
pub mod NumberedLemmas
pub mod PlacingLemmas
pub mod TextsLemmas
pub mod Chained
pub mod LeaveLemmas
pub mod SortedLinks
pub mod PreparedLemmas
