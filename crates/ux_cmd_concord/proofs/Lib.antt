pub mod Answering
pub mod HitsLemmas
