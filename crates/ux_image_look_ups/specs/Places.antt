-- The states of a place. Inner: the crate's own functions alone speak of it.
use Rattle.std.specs.Prelude.{ℕ, List, ◌∷◌, Option, None, Some}

-- the first number and the others
abbrev pub numbers_in : Option ℕ → List ℕ → List ℕ
numbers_in None others = others
numbers_in (Some first) others = first ∷ others
