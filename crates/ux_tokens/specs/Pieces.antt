-- How a text keeps its tokens, by the places where they end: for inner functions alone.
use Rattle.std.specs.Prelude.{◌≡◌, ℕ, ◌≤◌, List, [], ◌∷◌, Some, take, slice_get, slice_range}
use Rattle.std.specs.Str.{IsCharBoundary}
use Rattle.ux_tokens.specs.declared.piece.Piece.{Piece}
use Rattle.ux_tokens.specs.Tokens.{Token}
use Rattle.ux_tokens.specs.Numbers.{different_texts}

-- the token of a piece that begins at a place
abbrev pub token_of : List ℕ → ℕ → Piece → Token
token_of text start piece = record { kind = piece.kind; text = slice_range text start piece.end }

-- the tokens of pieces, of which the first begins at a place
abbrev pub tokens_from : List ℕ → ℕ → List Piece → List Token
tokens_from text start [] = []
tokens_from text start (piece ∷ pieces) =
    token_of text start piece ∷ tokens_from text piece.end pieces

-- the place after the last piece
abbrev pub end_from : ℕ → List Piece → ℕ
end_from start [] = start
end_from start (piece ∷ pieces) = end_from piece.end pieces

-- the pieces lie in the text, cut it between characters, and have the numbers of their texts
pub record ArePieces (text : List ℕ) (pieces : List Piece) (different : List (List ℕ)) :
    Type 0 where
  pub ordered : (k : ℕ) (piece : Piece) → slice_get pieces k ≡ Some piece →
      end_from 0 (take k pieces) ≤ piece.end
  pub cut : (k : ℕ) (piece : Piece) → slice_get pieces k ≡ Some piece →
      IsCharBoundary text piece.end
  pub numbered : (k : ℕ) (piece : Piece) (token : Token) → slice_get pieces k ≡ Some piece →
      slice_get (tokens_from text 0 pieces) k ≡ Some token →
      slice_get different piece.number ≡ Some token.text
  pub all : different ≡ different_texts (tokens_from text 0 pieces)
