pub mod AnsweringLemmas
pub mod GoingLemmas
pub mod ReadingLemmas
