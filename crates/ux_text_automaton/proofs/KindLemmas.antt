-- What is known of a token by its kind.
use Rattle.std.proofs.Common.{arith, ◌≡◌, inl, inr, ℕ, ◌<◌, false, List, length, refl, sym, subst}
use Rattle.std.specs.Prelude.{Option, None, Some, IsSomeAnd, slice_get}
use Rattle.std.proofs.lemmas.Bool.{false≢true}
use Rattle.std.proofs.lemmas.Option.{slice_get_cases, slice_get_within}
use Rattle.ux_tokens.specs.declared.kind.Kind.{Kind}
use Rattle.ux_tokens.specs.declared.kind.Kind.TheVariants.{Word, Space, Other, Sentence, Stop, Tag}
use Rattle.ux_tokens.specs.Tokens.{Token}
use Rattle.ux_text_automaton.specs.Runs.{is_no_space}

-- what holds of the kind holds of the token, and the other way round
pub to_token : (P : Kind → Type 0) (o : Option Token) (kind : Kind) →
    IsSomeAnd o (λ token. kind ≡ token.kind) → P kind → IsSomeAnd o (λ token. P token.kind)
to_token P None kind is holds = absurd is
to_token P (Some token) kind is holds = subst P is holds

pub of_token : (P : Kind → Type 0) (o : Option Token) (kind : Kind) →
    IsSomeAnd o (λ token. kind ≡ token.kind) → IsSomeAnd o (λ token. P token.kind) → P kind
of_token P None kind is holds = absurd is
of_token P (Some token) kind is holds = subst P (sym is) holds

-- a fact on the token that is there
pub on_token : (P : Token → Type 0) (o : Option Token) (token : Token) → o ≡ Some token →
    P token → IsSomeAnd o P
on_token P o token is holds =
    subst (λ (given : Option Token). IsSomeAnd given P) (sym is) holds

pub at_token : (P : Token → Type 0) (o : Option Token) (token : Token) → o ≡ Some token →
    IsSomeAnd o P → P token
at_token P o token is holds = subst (λ (given : Option Token). IsSomeAnd given P) is holds

-- the token of which something holds
pub the_token : (P : Token → Type 0) (o : Option Token) → IsSomeAnd o P →
    (token : Token) × (o ≡ Some token) × P token
the_token P None holds = absurd holds
the_token P (Some token) holds = (token, refl, holds)

-- a place with a token lies in the text
pub within : (P : Token → Type 0) (tokens : List Token) (place : ℕ) →
    IsSomeAnd (slice_get tokens place) P → place < length tokens
within P tokens place holds =
    let found = the_token P (slice_get tokens place) holds in
    slice_get_within tokens place found.0 found.1

-- each place of the text has a token
pub token_at : (tokens : List Token) (place : ℕ) → place < length tokens →
    (token : Token) × (slice_get tokens place ≡ Some token)
token_at tokens place lt = elim (slice_get_cases tokens place).1 [
  | inl found ↦ (found.0, found.2)
  | inr past ↦ absurd (omega (arith, past.0, lt))
]

-- a token that isn't other than a space is one
pub space_kind : (kind : Kind) → is_no_space kind ≡ false → kind ≡ Space
space_kind Word is = absurd (false≢true (sym is))
space_kind Space is = refl
space_kind Other is = absurd (false≢true (sym is))
space_kind Sentence is = absurd (false≢true (sym is))
space_kind Stop is = absurd (false≢true (sym is))
space_kind Tag is = absurd (false≢true (sym is))
