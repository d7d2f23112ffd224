-- The hits of the finder in memory.
use Rattle.std.specs.Prelude.{◌≡◌, ℕ, List, [], ◌∷◌, get_or}
use Rattle.std.proofs.Common.{◌∙◌, sym}
use Rattle.ux_tokens.specs.Tokens.{Token}
use Rattle.ux_outputs.specs.declared.hit.Hit.{Hit}

-- the first token, and the text that is put in its place
abbrev pub front_hits : List ℕ → List Token → List Hit
front_hits text [] = []
front_hits text (token ∷ tokens) = record { first = 0; last = 0; text = text } ∷ []

-- these are the hits of a step in a text
abbrev pub FindsFront : (texts : List (List ℕ)) → (step : ℕ) → List Token → List Hit → Type 0
FindsFront texts step tokens hits = hits ≡ front_hits (get_or texts step []) tokens

-- and there are no others
pub one_front : (texts : List (List ℕ)) (step : ℕ) (tokens : List Token) (one other : List Hit) →
    FindsFront texts step tokens one → FindsFront texts step tokens other → one ≡ other
one_front texts step tokens one other a b = a ∙ sym b
