-- Where neither a compound entry nor a digit stands, no span of several tokens begins.
use Rattle.std.proofs.Common.{◌≡◌, ◌≤◌, ℕ, List, [], ◌∷◌, sym, ◌∙◌, ap, refl}
use Rattle.std.specs.Prelude.{Option, Some, None, IsSomeAnd, slice_get}
use Rattle.ux_alphabet.specs.Letters.{Letters}
use Rattle.ux_dela.specs.declared.entry.Entry.{Entry}
use Rattle.ux_lexical_tables.specs.Accepting.{IsAlone}
use Rattle.ux_lexical_tables.specs.Belonging.{Belongs}
use Rattle.ux_lexical_tables.specs.Tables.{Tables}
use Rattle.ux_lexical_tables.proofs.OneTokenLaws.{alone_tag, alone_without_row}
use Rattle.ux_tokens.specs.declared.kind.Kind.{Kind}
use Rattle.ux_tokens.specs.declared.kind.Kind.TheVariants.{Tag}
use Rattle.ux_tokens.specs.Tokens.{Token}

module _ (alphabet : Letters) (tokens : List Token) (tables : Tables)
    (belongs : Belongs alphabet tokens tables) (place : ℕ) where
  pub tag_singly : (kind : Kind) → kind ≡ Tag →
      IsSomeAnd (slice_get tokens place) (λ token. kind ≡ token.kind) →
      IsAlone tokens tables place
  tag_singly kind tag has = go (slice_get tokens place) refl has
    where
      go : (o : Option Token) → slice_get tokens place ≡ o →
          IsSomeAnd o (λ token. kind ≡ token.kind) → IsAlone tokens tables place
      go None at h = absurd h
      go (Some token) at h =
          alone_tag alphabet tokens tables belongs place token at (sym h ∙ tag)

  pub row_singly : (row : List (ℕ × Entry)) (text : List ℕ) → row ≡ [] →
      IsSomeAnd (slice_get tables.compounds place) (λ r. row ≡ r) →
      IsSomeAnd (slice_get tokens place) (λ token. text ≡ token.text) →
      ((digit : ℕ) → 48 ≤ digit → digit ≤ 57 → text ≡ digit ∷ [] → ⊥) →
      IsAlone tokens tables place
  row_singly row text none has stands no_digit =
      go (slice_get tables.compounds place) (slice_get tokens place) refl refl has stands
    where
      go : (r : Option (List (ℕ × Entry))) (o : Option Token) →
          slice_get tables.compounds place ≡ r → slice_get tokens place ≡ o →
          IsSomeAnd r (λ x. row ≡ x) → IsSomeAnd o (λ token. text ≡ token.text) →
          IsAlone tokens tables place
      go None o there at h k = absurd h
      go (Some x) None there at h k = absurd k
      go (Some x) (Some token) there at h k =
          alone_without_row alphabet tokens tables belongs place token at
          (λ digit. no_digit digit.1.0 digit.1.1 digit.1.2 (k ∙ digit.1.3))
          (there ∙ ap (λ (l : List (ℕ × Entry)). Some l) (sym h ∙ none))
