-- Pieces in columns, their ends, numbers and kinds each in a list: for inner functions alone.
use Rattle.std.specs.Prelude.{◌≡◌, ℕ, List, [], ◌∷◌, ◌++◌, length}
use Rattle.ux_tokens.specs.declared.kind.Kind.{Kind}
use Rattle.ux_tokens.specs.declared.piece.Piece.{Piece}
use Rattle.ux_tokens.specs.declared.ends.Ends.{Ends}
use Rattle.ux_tokens.specs.declared.pieces.Pieces.{Pieces}

-- the places, first those in four bytes
abbrev pub ends_of : Ends → List ℕ
ends_of ends = ends.near.items ++ ends.far.items

-- the pieces of three columns, as far as all of them go
abbrev pub pieces_from : List ℕ → List ℕ → List Kind → List Piece
pieces_from [] numbers kinds = []
pieces_from (end ∷ ends) [] kinds = []
pieces_from (end ∷ ends) (number ∷ numbers) [] = []
pieces_from (end ∷ ends) (number ∷ numbers) (kind ∷ kinds) =
    record { end = end; number = number; kind = kind } ∷ pieces_from ends numbers kinds

-- the pieces as one list
abbrev pub pieces_of : Pieces → List Piece
pieces_of pieces = pieces_from (ends_of pieces.ends) pieces.numbers.items pieces.kinds.items

-- the columns are as long as each other
pub record AreEven (pieces : Pieces) : Type 0 where
  pub ends : length (ends_of pieces.ends) ≡ length pieces.numbers.items
  pub kinds : length pieces.kinds.items ≡ length pieces.numbers.items
