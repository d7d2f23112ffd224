-- What a table of readings keeps. Inner: the crate's own functions alone speak of it.
use Rattle.std.specs.Prelude.{ℕ, ◌<◌, ◌^◌, List, length, map}
use Rattle.std.specs.List.{AllZip}
use denote.Ref.{Bor}
use Rattle.ux_reading_table.specs.Noting.{IsNumbered}
use Rattle.ux_reading_table.specs.Numbered.{AreTexts}

-- the texts are those of different readings, and beside each spelled text stands the number of its
-- reading
pub record IsKept (texts : List (List ℕ)) (spelled : List (Bor (List ℕ))) (numbers : List ℕ) :
    Type 0 where
  pub are_texts : AreTexts texts
  pub numbered : AllZip (IsNumbered texts) (map (λ text. text.now) spelled) numbers
  pub few : length texts < 2 ^ 32
