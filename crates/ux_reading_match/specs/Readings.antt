-- Readings by their numbers, and which of them a label matches. Public: the crate's public contracts
-- speak of it.
use Rattle.std.specs.Prelude.{◌≡◌, ℕ, List, Some, All, map, slice_get}
use Rattle.ux_alphabet.specs.Letters.{Letters}
use Rattle.ux_net.specs.declared.label.Label.{Label}
use Rattle.ux_sentence.specs.declared.sentence.Reading.{Reading}
use Rattle.ux_sentence.specs.Readings.{IsSpellable}
use Rattle.ux_sentence.specs.Written.{reading_text}
use Rattle.ux_reading_match.specs.Matching.{Matches}

-- the readings have these printed texts, one each, and can be spelled
pub record AreReadingsOf (texts : List (List ℕ)) (readings : List Reading) : Type 0 where
  pub texts_are : map reading_text readings ≡ texts
  pub spellable : All IsSpellable readings

-- the label matches the reading with the number
abbrev pub MatchesNumber : Letters → List Reading → Label → (number : ℕ) → Type 0
MatchesNumber letters readings label number = (reading : Reading)
    × (slice_get readings number ≡ Some reading) × Matches letters label reading
