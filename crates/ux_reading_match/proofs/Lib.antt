pub mod AcceptingLemmas
pub mod FittingLemmas
pub mod UsableLaws
pub mod UsableLemmas
