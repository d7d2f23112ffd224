pub mod AlikeLemmas
pub mod CascadeLaws
mod Examples
pub mod LyingLemmas
pub mod RefusingLemmas
pub mod RewritingLemmas
pub mod RoundLemmas
pub mod TraceLemmas
