pub mod AnswerLemmas
pub mod ClassLemmas
pub mod FormLemmas
pub mod NetLemmas
