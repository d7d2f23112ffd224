-- An end that two texts have. Inner: the crate's own functions alone speak of it.
use Rattle.std.specs.Prelude.{◌≡◌, ℕ, ◌-◌, ◌≤◌, List, length, drop}
use Rattle.std.specs.Str.{IsAscii}

-- so many bytes at the ends of both texts are the same, and ASCII
pub record IsSharedEnd (text other : List ℕ) (shared : ℕ) : Type 0 where
  pub end : List ℕ
  pub within : shared ≤ length text
  pub within_other : shared ≤ length other
  pub of_text : drop (length text - shared) text ≡ end
  pub of_other : drop (length other - shared) other ≡ end
  pub ascii : IsAscii end
