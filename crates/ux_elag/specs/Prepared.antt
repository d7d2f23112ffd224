-- Rules that are prepared for the readings of a table. Public: the crate's public contracts speak
-- of `Prepared` and `LeavesNumbered`.
use Rattle.std.specs.Prelude.{◌≡◌, ℕ, ◌++◌, List, [], ◌∷◌, All, Contains, Some, length, map, slice_get}
use Rattle.ux_sentence.specs.declared.sentence.Reading.{Reading}
use Rattle.ux_sentence.specs.declared.sentence.Sentence.{Sentence}
use Rattle.ux_sentence.specs.Readings.{IsSpellable}
use Rattle.ux_sentence.specs.Valid.{HasSpellable}
use Rattle.ux_sentence.specs.Written.{reading_text}
use Rattle.ux_monitor.specs.Monitors.{AreMore, tests_of}
use Rattle.ux_monitor.specs.Parts.{RulePart}
use Rattle.ux_monitor.specs.Rules.{SatisfiesBy}
use Rattle.ux_reading_table.specs.Numbered.{AreTexts, IsNumberedBy}
use Rattle.ux_reading_table.specs.declared.numbered.NumberedSentence.{NumberedSentence}
use Rattle.ux_rules.specs.Rules.{RuleSteps}
use Rattle.ux_elag.specs.declared.prepared_rule.PreparedRule.{PreparedRule}
use Rattle.ux_elag.specs.Left.{AreLeft}
use Rattle.ux_elag.specs.Ready.{AreKinds, IsKindFor, IsMonitorOf}

-- what a contract sees of prepared rules: the rules, and the texts of the readings by number
pub record Prepared : Type 0 where
  pub rules : List RuleSteps
  pub texts : List (List ℕ)

-- the numbered sentence stands for what the rules leave of the old one
pub record LeavesNumbered (prepared : Prepared) (old : Sentence) (numbered : NumberedSentence) :
    Type 0 where
  pub left : Sentence
  pub is_numbered : IsNumberedBy prepared.texts left numbered
  pub are_left : AreLeft prepared.rules old left
  pub spellable : All HasSpellable left.links

-- the reading has the text with the number
pub record HasText (texts : List (List ℕ)) (number : ℕ) (reading : Reading) : Type 0 where
  pub spellable : IsSpellable reading
  pub text : slice_get texts number ≡ Some (reading_text reading)

-- the rule has the kinds of the readings with the first so many texts
pub record IsPreparedFor (texts : List (List ℕ)) (count : ℕ) (rule : PreparedRule) : Type 0 where
  pub monitor : IsMonitorOf rule.rule.steps rule.monitor.rule
  pub kinds : AreKinds rule.rule.steps (HasText texts) count rule.monitor.kinds rule.kinds.items

-- the rules are prepared for the readings with these texts
pub record ArePrepared (texts : List (List ℕ)) (rules : List PreparedRule) : Type 0 where
  pub are_texts : AreTexts texts
  pub each : All (IsPreparedFor texts (length texts)) rules

-- the rule is to be prepared, and has no kinds yet
pub record IsFresh (rule : RuleSteps) (fresh : PreparedRule) : Type 0 where
  pub same : fresh.rule ≡ rule
  pub monitor : IsMonitorOf fresh.rule.steps fresh.monitor.rule
  pub none : fresh.kinds.items ≡ []

-- the rule is the same, and has one more kind, which is that of the reading
pub record Notes (reading : Reading) (old new : PreparedRule) : Type 0 where
  pub rule : new.rule ≡ old.rule
  pub watched : new.monitor.rule ≡ old.monitor.rule
  pub more : AreMore old.monitor.kinds new.monitor.kinds
  pub number : ℕ
  pub grown : new.kinds.items ≡ old.kinds.items ++ number ∷ []
  pub kind : IsKindFor new.rule.steps reading new.monitor.kinds number

-- the numbers of readings satisfy the rule, as their kinds tell
abbrev pub SatisfiesOne : PreparedRule → List ℕ → Type 0
SatisfiesOne rule word =
    SatisfiesBy rule.monitor.rule (tests_of rule.monitor.kinds rule.kinds.items) word

-- the numbers of readings satisfy each of the rules
abbrev pub SatisfiesAll : List PreparedRule → List ℕ → Type 0
SatisfiesAll rules word = (rule : PreparedRule) → Contains rules rule → SatisfiesOne rule word

-- the rule with its kinds, as a part of the rules' product
abbrev pub part_of : PreparedRule → RulePart
part_of rule = record { over = rule.monitor; of = rule.kinds.items }

abbrev pub parts_in : List PreparedRule → List RulePart
parts_in rules = map part_of rules
