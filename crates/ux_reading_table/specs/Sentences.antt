-- What is read of a sentence, before it is known that a table has its texts. Inner: the crate's own
-- functions alone speak of it.
use Rattle.std.specs.Prelude.{◌≡◌, ℕ, List}
use Rattle.std.specs.List.{AllZip}
use Rattle.ux_sentence.specs.declared.sentence.Sentence.{Sentence}
use Rattle.ux_sentence.specs.Files.{Place, Tells, behind_sentence}
use Rattle.ux_reading_table.specs.declared.numbered.NumberedSentence.{NumberedSentence}
use Rattle.ux_reading_table.specs.Noting.{IsToldIfKnown}

-- the next sentence is read, and told as far as the texts are there
pub record TellsNext (texts : List (List ℕ)) (old : Place) (numbered : NumberedSentence)
    (new : Place) : Type 0 where
  pub sentence : Sentence
  pub behind : List (List ℕ)
  pub tells : Tells old sentence behind
  pub is_behind : new ≡ behind_sentence old sentence behind
  pub number : numbered.number ≡ sentence.number
  pub states : numbered.states ≡ sentence.states
  pub links : AllZip (IsToldIfKnown texts) numbered.links.items sentence.links
