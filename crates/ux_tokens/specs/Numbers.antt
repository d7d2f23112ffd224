-- The numbers of tokens, each the place of a text among the different ones: the crate's public
-- meaning.
use Rattle.std.specs.Prelude.{◌≡◌, Some, Option, IfSome, slice_get, ℕ, List, [], ◌∷◌, map}
use Rattle.indexmap.specs.IndexSet.{IndexSet}
use denote.Ref.{Bor}
use Rattle.ux_base.specs.Distinct.{each_once}
use Rattle.ux_tokens.specs.Tokens.{Token, SPACE}

-- the different texts of the tokens, in order of first appearance: a number is a place here
abbrev pub different_texts : List Token → List (List ℕ)
different_texts tokens = each_once (map (λ token. token.text) tokens)

-- the texts of a table of numbers, in order of number
abbrev pub texts_in : {S : Type 0} → IndexSet (Bor (List ℕ)) S → List (List ℕ)
texts_in numbers = map (λ text. text.now) numbers.keys

-- the number, where there is one, is that of the space
abbrev pub IsSpaceNumber : List (List ℕ) → Option ℕ → Type 0
IsSpaceNumber texts number = IfSome number (λ place. slice_get texts place ≡ Some (SPACE ∷ []))
