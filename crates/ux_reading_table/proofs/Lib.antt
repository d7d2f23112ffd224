pub mod BareLemmas
pub mod CallerLemmas
pub mod FieldsLemmas
mod LikesLemmas
mod NextLemmas
pub mod NotingLemmas
pub mod PlacesLemmas
pub mod PrintedLemmas
pub mod TableLemmas
