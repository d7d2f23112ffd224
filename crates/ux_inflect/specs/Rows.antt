-- Rows of numbers without what is no node. Inner: the crate's own functions alone speak of it.
use Rattle.std.specs.Prelude.{List, ℕ, filter, length, map, nat_lt}

-- the rows with the ends that are nodes alone
abbrev pub inner_rows : List (List ℕ) → List (List ℕ)
inner_rows rows = map (filter (λ end. nat_lt end (length rows))) rows
