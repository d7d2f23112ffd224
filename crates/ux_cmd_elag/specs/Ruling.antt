-- The rules, applied to the sentences of a text. Inner: the crate's own functions alone speak of
-- it.
use Rattle.std.specs.Prelude.{◌≡◌, ◌++◌, ℕ, List}
use Rattle.std.specs.List.{AllZip}
use Rattle.ux_elag.specs.Left.{AreLeft}
use Rattle.ux_reading_table.specs.Numbered.{AreTexts, IsNumberedBy}
use Rattle.ux_reading_table.specs.declared.numbered.NumberedSentence.{NumberedSentence}
use Rattle.ux_rules.specs.Rules.{RuleSteps}
use Rattle.ux_sentence.specs.Valid.{IsWritable}
use Rattle.ux_sentence.specs.declared.sentence.Sentence.{Sentence}
use Rattle.ux_sentence.specs.Written.{IsPrinted, IsPrintedFile}

-- the numbered sentence stands for the sentence, which can be written
pub record Stands (texts : List (List ℕ)) (numbered : NumberedSentence) (sentence : Sentence) :
    Type 0 where
  pub is_numbered : IsNumberedBy texts sentence numbered
  pub writable : IsWritable sentence

-- what the rules leave of the sentence is printed behind the old text
pub record PrintsLeft (rules : List RuleSteps) (sentence : Sentence) (old new : List ℕ) : Type 0
  where
    pub left : Sentence
    pub are_left : AreLeft rules sentence left
    pub more : List ℕ
    pub printed : IsPrinted left more
    pub is : new ≡ old ++ more

-- the sentences stand in numbers, by texts of readings
pub record AllStand (texts : List (List ℕ)) (sentences : List Sentence)
    (numbered : List NumberedSentence) : Type 0 where
  pub are_texts : AreTexts texts
  pub each : AllZip (Stands texts) numbered sentences

-- the answer is the file of what the rules leave of the sentences
pub record IsRuledFile (rules : List RuleSteps) (sentences : List Sentence) (answer : List ℕ) :
    Type 0 where
  pub left : List Sentence
  pub each : AllZip (AreLeft rules) sentences left
  pub is : IsPrintedFile left answer
