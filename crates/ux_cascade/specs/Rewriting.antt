-- A text in which hits are rewritten. The manual, on cascades of graphs. Public: the crate's public
-- contracts speak of it.
use Rattle.std.specs.Prelude.{◌≡◌, ◌⊎◌, ℕ, ◌+◌, ◌<◌, ◌≤◌, ◌==◌, not, List, [], ◌∷◌, ◌++◌, All, AllPairs, filter, length, drop}
use Rattle.ux_tokens.specs.Tokens.{Token, joined}
use Rattle.ux_outputs.specs.declared.hit.Hit.{Hit}
use Rattle.ux_outputs.specs.Rendering.{text_between}
use Rattle.ux_cascade.specs.declared.rewriting.Rewritten.{Rewritten}

-- the hit's tokens are tokens of the text
pub record LiesIn (tokens : List Token) (hit : Hit) : Type 0 where
  pub in_order : hit.first ≤ hit.last
  pub within : hit.last < length tokens

-- both hits begin together, or the first ends before the other begins
abbrev pub IsInOrder : Hit → Hit → Type 0
IsInOrder hit other = (hit.first ≡ other.first) ⊎ (hit.last < other.first)

-- the hits can be rewritten: they lie in the text, stand in order, and those that begin apart don't
-- overlap
pub record CanRewrite (tokens : List Token) (hits : List Hit) : Type 0 where
  pub lie : All (LiesIn tokens) hits
  pub in_order : AllPairs IsInOrder hits

-- of the hits with one first token the first counts
abbrev pub counted : List Hit → List Hit
counted [] = []
counted (hit ∷ hits) = hit ∷ filter (λ other. not (other.first == hit.first)) (counted hits)

-- the text from a token on, in which the text of each hit stands for its tokens
abbrev pub replaced_from : List Token → (place : ℕ) → List Hit → List ℕ
replaced_from tokens place [] = joined (drop place tokens)
replaced_from tokens place (hit ∷ hits) =
    text_between tokens place hit.first ++ hit.text ++ replaced_from tokens (hit.last + 1) hits

-- the text in which the hits that count are replaced, and how many they are
abbrev pub rewritten : List Token → List Hit → Rewritten
rewritten tokens hits = record {
  text = replaced_from tokens 0 (counted hits);
  spans = length (counted hits);
}
