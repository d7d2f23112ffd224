-- The parts of a text to which entries may apply. The manual, on applying dictionaries. Public: the
-- crate's public contracts speak of it.
use Rattle.std.specs.Prelude.{ℕ, ◌+◌, ◌≤◌, List, IsSomeAnd, slice_get, slice_range}
use Rattle.ux_tokens.specs.declared.kind.Kind.{Kind}
use Rattle.ux_tokens.specs.declared.kind.Kind.TheVariants.{Word, Space, Other, Sentence, Stop, Tag}
use Rattle.ux_tokens.specs.Tokens.{Token, joined}

-- a token of this kind may stand in a span
abbrev pub MayStand : Kind → Type 0
MayStand Word = Unit {0}
MayStand Space = Unit {0}
MayStand Other = Unit {0}
MayStand Sentence = ⊥
MayStand Stop = ⊥
MayStand Tag = ⊥

-- a token of this kind may be the first or the last one of a span
abbrev pub MayBound : Kind → Type 0
MayBound Word = Unit {0}
MayBound Space = ⊥
MayBound Other = Unit {0}
MayBound Sentence = ⊥
MayBound Stop = ⊥
MayBound Tag = ⊥

-- the tokens from the first to the last are words, spaces and other ones, and no space bounds them
pub record IsSpan (tokens : List Token) (first last : ℕ) : Type 0 where
  pub in_order : first ≤ last
  pub begins : IsSomeAnd (slice_get tokens first) (λ token. MayBound token.kind)
  pub ends : IsSomeAnd (slice_get tokens last) (λ token. MayBound token.kind)
  pub inside : (i : ℕ) → first ≤ i → i ≤ last →
      IsSomeAnd (slice_get tokens i) (λ token. MayStand token.kind)

-- the joined text of the tokens from the first to the last
abbrev pub text_of : (tokens : List Token) (first last : ℕ) → List ℕ
text_of tokens first last = joined (slice_range tokens first (last + 1))
