-- Lines whose contexts are lent by the text. Inner: the crate's own functions alone speak of it.
use Rattle.std.specs.Prelude.{◌≡◌, ℕ, ◌+◌, List, All, map}
use Rattle.std.specs.List.Sorted.{IsSorted}
use Rattle.ux_base.specs.declared.settings.Sort.{Sort}
use Rattle.ux_tokens.specs.Tokens.{Token}
use Rattle.ux_outputs.specs.declared.hit.Hit.{Hit}
use Rattle.ux_concordance.specs.declared.line.LentLine.{LentLine}
use Rattle.ux_concordance.specs.Concordance.{IsInContext, Line, line_cmp}
use Rattle.ux_concordance.specs.Widths.{width}

-- the line that is lent
abbrev pub line_of : LentLine → Line
line_of lent = record { hit = lent.hit.now; left = lent.left.now; right = lent.right.now }

-- the spaces fill the left columns
abbrev pub IsFilled : (left_columns : ℕ) → LentLine → Type 0
IsFilled left_columns lent = width lent.left.now + lent.spaces ≡ left_columns

-- the line is in context, and filled
pub record IsLentLine (tokens : List Token) (left_columns right_columns : ℕ) (lent : LentLine) :
    Type 0 where
  pub context : IsInContext tokens left_columns right_columns (line_of lent)
  pub filled : IsFilled left_columns lent

-- each line is filled
abbrev pub AreFilled : (left_columns : ℕ) → List LentLine → Type 0
AreFilled left_columns lines = All (IsFilled left_columns) lines

-- the lines are those of the hits, in their order
pub record AreLinesOf (tokens : List Token) (left_columns right_columns : ℕ) (hits : List Hit)
    (lines : List LentLine) : Type 0 where
  pub of : map (λ lent. lent.hit.now) lines ≡ hits
  pub each : All (IsLentLine tokens left_columns right_columns) lines

-- no line stands behind one that it belongs before
abbrev pub AreSorted : Sort → List LentLine → Type 0
AreSorted sort lines = IsSorted (λ a b. line_cmp sort (line_of a) (line_of b)) lines
