pub mod AnsweringLemmas
pub mod HitsLemmas
pub mod ReadingLemmas
