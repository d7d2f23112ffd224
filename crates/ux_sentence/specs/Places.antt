-- Steps of the reader from place to place. Inner: the crate's own functions alone speak of it.
use Rattle.std.specs.Prelude.{◌≡◌, ℕ, ◌+◌, ◌<◌, ◌^◌, List, [], ◌∷◌}
use Rattle.ux_sentence.specs.declared.error.SentenceError.{SentenceError}
use Rattle.ux_sentence.specs.declared.error.SentenceError.TheVariants.{BadLine}
use Rattle.ux_sentence.specs.Files.{Place, RefusesLink}
use Rattle.ux_sentence.specs.Written.{head_line}

-- one place stands behind the line that the other stands before
pub record IsPast (line : List ℕ) (before behind : Place) : Type 0 where
  pub lines : before.lines ≡ line ∷ behind.lines
  pub passed : behind.passed ≡ before.passed + 1
  pub told : behind.told ≡ before.told
  pub count : behind.count ≡ before.count

-- why the next line, which has this number, says no link
abbrev pub RefusesNext : (states : ℕ) (lines : List (List ℕ)) (number : ℕ) → SentenceError → Type 0
RefusesNext states [] number error = error ≡ BadLine number
RefusesNext states (line ∷ lines) number error = RefusesLink states line number error

-- the first line is missing, or no head line
abbrev pub HasNoHeadLine : List (List ℕ) → Type 0
HasNoHeadLine [] = Unit {0}
HasNoHeadLine (line ∷ lines) = (count : ℕ) → count < 2 ^ 32 → line ≡ head_line count → ⊥
