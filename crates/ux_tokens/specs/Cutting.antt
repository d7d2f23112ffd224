-- A text with single spaces that is cut into tokens, up to a place: for inner functions alone.
use Rattle.std.specs.Prelude.{◌≡◌, ℕ, ◌≤◌, ◌<◌, List, ◌++◌, length, drop}
use Rattle.std.specs.Str.{IsCharBoundary}
use Rattle.ux_alphabet.specs.Letters.{Letters}
use Rattle.ux_tokens.specs.declared.piece.Piece.{Piece}
use Rattle.ux_tokens.specs.declared.cutting.Cut.{Cut}
use Rattle.ux_tokens.specs.declared.text_error.TextError.{TextError}
use Rattle.ux_tokens.specs.declared.text_error.TextError.TheVariants.{TooManyTokens, NoMemory}
use Rattle.ux_tokens.specs.declared.cutting.TheConstants.{MAX_TOKENS}
use Rattle.ux_tokens.specs.Tokens.{Token, AreCutAtMarks}
use Rattle.ux_tokens.specs.Numbers.{different_texts}
use Rattle.ux_tokens.specs.Pieces.{ArePieces, tokens_from, end_from}
use Rattle.ux_tokens.specs.Columns.{AreEven, pieces_of}

-- the tokens reach to the rest: with any tokens of the rest after them they are those of the text
abbrev pub ReachTo : (List ℕ → List Token → Type 0) → (text rest : List ℕ) → List Token → Type 0
ReachTo Are text rest tokens = (more : List Token) → Are rest more → Are text (tokens ++ more)

-- the pieces are those of the text up to a place between two characters
pub record IsSoFar (alphabet : Letters) (text : List ℕ) (end : ℕ) (pieces : List Piece)
    (different : List (List ℕ)) : Type 0 where
  pub tokens : ReachTo (AreCutAtMarks alphabet) text (drop end text) (tokens_from text 0 pieces)
  pub pieces_are : ArePieces text pieces different
  pub ends : end_from 0 pieces ≡ end
  pub between : IsCharBoundary text end
  pub few : length pieces ≤ MAX_TOKENS

-- the pieces are those of the whole text
pub record IsCutting (alphabet : Letters) (text : List ℕ) (cut : Cut) : Type 0 where
  pub tokens : AreCutAtMarks alphabet text (tokens_from text 0 (pieces_of cut.pieces))
  pub pieces : ArePieces text (pieces_of cut.pieces)
      (different_texts (tokens_from text 0 (pieces_of cut.pieces)))
  pub even : AreEven cut.pieces
  pub few : length (pieces_of cut.pieces) ≤ MAX_TOKENS
  pub different : cut.different
      ≡ length (different_texts (tokens_from text 0 (pieces_of cut.pieces)))

-- the texts are the different ones of the whole text's tokens
pub record IsListing (alphabet : Letters) (text : List ℕ) (texts : List (List ℕ)) : Type 0 where
  pub tokens : List Token
  pub cut : AreCutAtMarks alphabet text tokens
  pub few : length tokens ≤ MAX_TOKENS
  pub are : texts ≡ different_texts tokens

-- when each error comes; out of memory may come at any text
abbrev pub RefusesCut : Letters → List ℕ → TextError → Type 0
RefusesCut alphabet text TooManyTokens =
    (tokens : List Token) × AreCutAtMarks alphabet text tokens × (MAX_TOKENS < length tokens)
RefusesCut alphabet text NoMemory = Unit {0}
