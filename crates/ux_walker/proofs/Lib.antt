pub mod AgendaLemmas
pub mod WalkLemmas
pub mod AscendingLemmas
pub mod UnderWay
pub mod EndsLaws
