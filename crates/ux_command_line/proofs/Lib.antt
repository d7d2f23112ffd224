-- tables
pub mod BoolLemmas
pub mod NumberLemmas
pub mod CutLemmas
pub mod FlagLemmas
pub mod GivenLemmas
-- the uses of words, and what they say
pub mod Uses
pub mod RightUses
pub mod WordForms
pub mod UseLemmas
pub mod ReadingLemmas
-- clap's walk over the words
pub mod TableLemmas
pub mod RuleLemmas
pub mod ShortLemmas
pub mod Walks
pub mod WalkSteps
pub mod WalkValues
pub mod WalkWords
pub mod WalkUses
-- what it finds
pub mod RowLemmas
pub mod TakenLemmas
pub mod OptionLemmas
pub mod FoundSteps
pub mod WrongValues
pub mod FoundLemmas
-- the command
pub mod CommandLemmas
pub mod CommandReading
pub mod MatchesLemmas
pub mod ValueLemmas
pub mod RequestLemmas
pub mod StepLemmas
pub mod StepWriting
mod Examples
-- how words are written
pub mod EqualsLemmas
pub mod Writing
pub mod WrittenLemmas
