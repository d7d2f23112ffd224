-- When the entries of a text belong to it. The manual, on applying dictionaries. Public: the crate's
-- public contracts speak of it.
use Rattle.std.specs.Prelude.{◌≡◌, ◌⊎◌, ℕ, ◌<◌, List, [], Some, All, AllPairs, Contains, length, slice_get}
use Rattle.ux_alphabet.specs.Letters.{Letters}
use Rattle.ux_dela.specs.Sound.{IsSound}
use Rattle.ux_dela.specs.declared.entry.Entry.{Entry}
use Rattle.ux_tokens.specs.declared.kind.Kind.{Kind}
use Rattle.ux_tokens.specs.declared.kind.Kind.TheVariants.{Word, Tag}
use Rattle.ux_tokens.specs.Tokens.{Token}
use Rattle.ux_lexical_tables.specs.Spans.{IsSpan}
use Rattle.ux_lexical_tables.specs.Tables.{Tables, IsOwnSimple, IsOwnCompound}

-- a token of this kind may have simple entries
abbrev pub MayHaveSimple : Kind → Type 0
MayHaveSimple Word = Unit {0}
MayHaveSimple Tag = Unit {0}
MayHaveSimple _ = ⊥

-- the entry of a row stands on a span of two or more tokens, or on a tag
abbrev pub StandsOn : List Token → (first last : ℕ) → Type 0
StandsOn tokens first last = ((first < last) × IsSpan tokens first last)
    ⊎ ((last ≡ first)
    × ((token : Token) × (slice_get tokens first ≡ Some token) × (token.kind ≡ Tag)))

-- The rows are those of the tokens: one of each for a token, each entry sound and once for its span,
-- and equal words with equal rows. Words and tags alone have simple entries. Compound ones stand on
-- spans of two or more tokens, by last token. A tag has exactly its own entry.
pub record Belongs (alphabet : Letters) (tokens : List Token) (tables : Tables) : Type 0 where
  pub simple_rows : length tables.simple ≡ length tokens
  pub compound_rows : length tables.compounds ≡ length tokens
  pub equal : (i j : ℕ) (token : Token) (row other : List Entry) → token.kind ≡ Word →
      slice_get tokens i ≡ Some token → slice_get tokens j ≡ Some token →
      slice_get tables.simple i ≡ Some row → slice_get tables.simple j ≡ Some other → row ≡ other
  pub words : (i : ℕ) (token : Token) (row : List Entry) → slice_get tokens i ≡ Some token →
      slice_get tables.simple i ≡ Some row → MayHaveSimple token.kind ⊎ (row ≡ [])
  pub sound_simple : (i : ℕ) (row : List Entry) → slice_get tables.simple i ≡ Some row →
      All IsSound row
  pub sound_compounds : (i : ℕ) (row : List (ℕ × Entry)) →
      slice_get tables.compounds i ≡ Some row → All (λ member. IsSound member.1) row
  pub once_simple : (i : ℕ) (row : List Entry) → slice_get tables.simple i ≡ Some row →
      AllPairs (λ a b. a ≡ b → ⊥) row
  pub once_compounds : (i : ℕ) (row : List (ℕ × Entry)) →
      slice_get tables.compounds i ≡ Some row → AllPairs (λ a b. a ≡ b → ⊥) row
  pub spans : (i last : ℕ) (entry : Entry) (row : List (ℕ × Entry)) →
      slice_get tables.compounds i ≡ Some row → Contains row (last, entry) →
      StandsOn tokens i last
  pub in_order : (i : ℕ) (row : List (ℕ × Entry)) → slice_get tables.compounds i ≡ Some row →
      AllPairs (λ a b. b.0 < a.0 → ⊥) row
  pub own_simple : (i : ℕ) (token : Token) (row : List Entry) → slice_get tokens i ≡ Some token →
      token.kind ≡ Tag → slice_get tables.simple i ≡ Some row →
      IsOwnSimple alphabet token.text row
  pub own_compound : (i : ℕ) (token : Token) (row : List (ℕ × Entry)) →
      slice_get tokens i ≡ Some token → token.kind ≡ Tag →
      slice_get tables.compounds i ≡ Some row → IsOwnCompound alphabet token.text i row
