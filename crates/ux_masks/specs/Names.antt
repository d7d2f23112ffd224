-- Where a backslash protects in a name. Inner: the crate's own functions alone speak of it.
use Rattle.std.specs.Prelude.{◌≡◌, ℕ, ◌==◌, ◌+◌, ◌<◌, Bool, true, false, List, [], ◌∷◌, ◌++◌, length, take, drop, slice_index}
use Rattle.ux_dela.specs.Signs.{BACKSLASH}
use Rattle.ux_dela.specs.Written.{meant}
use Rattle.ux_dela.specs.Reading.{characters_from}

-- the byte before this text is a backslash that protects a character
abbrev pub protects : ℕ → List ℕ → Bool
protects b [] = false
protects b (c ∷ text) = b == BACKSLASH

-- what the text means, of which the first character may be protected from outside
abbrev pub means : Bool → List ℕ → List ℕ
means protected text = meant (characters_from protected text)

-- the first backslash that protects stands there, and what stands before it is copied
pub record IsBackslashAt (protected : Bool) (text : List ℕ) (place : ℕ) : Type 0 where
  pub inside : place + 1 < length text
  pub ascii : slice_index text place < 128
  pub cut : means protected text ≡ take place text ++ means true (drop (place + 1) text)
