-- A text that is cut at its first separator, and the change of one piece. Inner: the crate's own
-- functions alone speak of it.
use Rattle.std.specs.Prelude.{◌≡◌, ℕ, ◌<◌, true, false, List, [], ◌∷◌, ◌++◌, All, length, take, slice_index, Option, None, Some, IsUtf8}
use Rattle.ux_image.specs.Pieces.{is_separator}
use Rattle.ux_image.specs.Codes.{changed}
use Rattle.ux_image.specs.declared.pieces.Cut.{Cut}
use Rattle.ux_image.specs.declared.code.Pair.{Pair}

-- no separator stands in the text
abbrev pub HasNoSeparator : List ℕ → Type 0
HasNoSeparator text = All (λ b. is_separator b ≡ false) text

-- the first separator of the text stands there
pub record IsSeparatorAt (text : List ℕ) (place : ℕ) : Type 0 where
  pub inside : place < length text
  pub sign : is_separator (slice_index text place) ≡ true
  pub none : HasNoSeparator (take place text)

-- the text is a piece without a separator, a separator, and what stands behind it
pub record IsCutOf (text : List ℕ) (cut : Cut) : Type 0 where
  pub sign : ℕ
  pub whole : text ≡ cut.piece.now ++ (sign ∷ cut.behind.now)
  pub is_sign : is_separator sign ≡ true
  pub alone : cut.separator.now ≡ sign ∷ []
  pub none : HasNoSeparator cut.piece.now
  pub utf8 : IsUtf8 cut.behind.now

-- the pair that leaves a piece as it is
abbrev pub UNCHANGED : Pair
UNCHANGED = record { taken = 0; added = [] }

-- what a pair makes of a piece, which stays where there is none
abbrev pub changed_by : Option Pair → List ℕ → List ℕ
changed_by None piece = piece
changed_by (Some pair) piece = changed pair piece
