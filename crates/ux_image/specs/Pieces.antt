-- The pieces of a text and the separators between them. A separator is ASCII, so that no byte of a
-- longer character is one. Public: the crate's public contracts speak of it.
use Rattle.std.specs.Prelude.{ℕ, ◌==◌, Bool, ◌||◌, List, [], ◌∷◌, ◌++◌, filter}
use Rattle.std.specs.List.{slice_split}
use Rattle.ux_dela.specs.Signs.{SPACE, HYPHEN}

-- a space or a hyphen
abbrev pub is_separator : ℕ → Bool
is_separator b = b == SPACE || b == HYPHEN

-- what stands between the separators of a text, in order
abbrev pub pieces : List ℕ → List (List ℕ)
pieces text = slice_split is_separator text

-- the separators of a text, in order
abbrev pub separators : List ℕ → List ℕ
separators text = filter is_separator text

-- the pieces, with a separator between each and the next one
abbrev pub joined : List (List ℕ) → List ℕ → List ℕ
joined [] signs = []
joined (piece ∷ later) [] = piece
joined (piece ∷ later) (sign ∷ signs) = piece ++ (sign ∷ joined later signs)
