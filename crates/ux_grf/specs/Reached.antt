-- The boxes that a path of targets leads to. Public, through `File` and `Content`.
use Rattle.std.specs.Prelude.{ℕ, List, [], Contains, get_or, slice_set}

-- the targets of a box, of which those of box 1 don't count: no path passes the end
abbrev pub ways_of : List (List ℕ) → List (List ℕ)
ways_of targets = slice_set targets 1 []

abbrev pub row_of : List (List ℕ) → ℕ → List ℕ
row_of ways box = get_or ways box []

-- a path from box 0 leads to the box
pub data Reached (ways : List (List ℕ)) : ℕ → Type 0 where
  start : Reached ways 0
  step : {u v : ℕ} → Reached ways u → Contains (row_of ways u) v → Reached ways v
