mod Examples
pub mod TableLemmas
pub mod LetterLemmas
pub mod EqualRowLemmas
pub mod OneTokenLaws
pub mod EndsLemmas
