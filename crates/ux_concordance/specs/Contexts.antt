-- What stands around a hit, as far as the columns go. Public: the crate's public contracts speak of it.
use Rattle.std.specs.Prelude.{◌≡◌, ℕ, ◌≤◌, List, ◌++◌, length, IsUtf8}
use Rattle.ux_concordance.specs.Widths.{width}

-- the part of a text is whole characters, and takes at most so many columns
pub record IsWithin (columns : ℕ) (part : List ℕ) : Type 0 where
  pub whole : IsUtf8 part
  pub narrow : width part ≤ columns

-- the context is the longest part at the begin of what stands behind that is within the columns
pub record IsRightContext (columns : ℕ) (behind context : List ℕ) : Type 0 where
  pub rest : List ℕ
  pub begins : behind ≡ context ++ rest
  pub within : IsWithin columns context
  pub longest : (other rest : List ℕ) → behind ≡ other ++ rest → IsWithin columns other →
      length other ≤ length context

-- the context is the longest part at the end of what stands before that is within the columns
pub record IsLeftContext (columns : ℕ) (before context : List ℕ) : Type 0 where
  pub rest : List ℕ
  pub ends : before ≡ rest ++ context
  pub within : IsWithin columns context
  pub longest : (other rest : List ℕ) → before ≡ rest ++ other → IsWithin columns other →
      length other ≤ length context
