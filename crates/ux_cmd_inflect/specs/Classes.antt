-- The classes of lemmas by number. Inner: the crate's own functions alone speak of it.
use Rattle.std.specs.Prelude.{◌≡◌, ℕ, List, Some, slice_get}
use Rattle.std.specs.List.{AllZip}
use Rattle.ux_dela.specs.declared.entry.Stem.{Stem}
use Rattle.ux_cmd_inflect.specs.Reading.{classes_of}

-- the number is that of the lemma's class among the names
abbrev pub HasNumber : (names : List (List ℕ)) → Stem → ℕ → Type 0
HasNumber names stem number = slice_get names number ≡ Some stem.class

-- the names are those of the classes, and the numbers those of each lemma's class
pub record AreClassed (stems : List Stem) (names : List (List ℕ)) (numbers : List ℕ) : Type 0 where
  pub are : names ≡ classes_of stems
  pub numbered : AllZip (HasNumber names) stems numbers
