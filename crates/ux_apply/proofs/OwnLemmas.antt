-- A tag has its own entry, and another token has none.
use Rattle.std.proofs.Common.{arith, ◌≡◌, ◌≢◌, ◌+◌, ◌<◌, ℕ, List, [], ◌∷◌, length, refl, subst, sym}
use Rattle.std.specs.Prelude.{IfOk, IsSomeAnd, None, Option, Result, Ok, Err, Some, Vec, slice_get}
use Rattle.ux_alphabet.specs.Letters.{Letters}
use Rattle.ux_dela.specs.declared.entry.Entry.{Entry}
use Rattle.ux_tokens.specs.declared.kind.Kind.{Kind}
use Rattle.ux_tokens.specs.declared.kind.Kind.TheVariants.{Word, Space, Other, Sentence, Stop, Tag}
use Rattle.ux_tokens.specs.Tokens.{IsTag, Token}
use Rattle.ux_lexical_tables.specs.Spans.{MayBound}
use Rattle.ux_lexical_tables.specs.Tables.{AreOwnCompound, AreOwnSimple, IsSimpleForm}
use Rattle.ux_apply.specs.Kept.{IsOwnRow}
use Rattle.ux_apply.proofs.CompoundLemmas.{row-own}
use Rattle.ux_apply.proofs.SpanLemmas.{none-unbounded, row-whole}
use Rattle.ux_apply.specs.declared.priority.Priority.{Priority}
use Rattle.ux_apply.specs.Applied.{AreCompoundUpTo, AreSimpleOf, IsCompoundRow}

-- a token of another kind has no compound entry
no_compound : (alphabet : Letters) (kind : Kind) (text : List ℕ) (place : ℕ) → (kind ≢ Tag) →
    AreOwnCompound alphabet kind text place []
no_compound alphabet Word text place other = refl
no_compound alphabet Space text place other = refl
no_compound alphabet Other text place other = refl
no_compound alphabet Sentence text place other = refl
no_compound alphabet Stop text place other = refl
no_compound alphabet Tag text place other = absurd (other refl)

-- and no simple one
pub no-simple : (alphabet : Letters) (kind : Kind) (text : List ℕ) → (kind ≢ Tag) →
    AreOwnSimple alphabet kind text []
no-simple alphabet Word text other = refl
no-simple alphabet Space text other = refl
no-simple alphabet Other text other = refl
no-simple alphabet Sentence text other = refl
no-simple alphabet Stop text other = refl
no-simple alphabet Tag text other = absurd (other refl)

-- what a token that is no word has is its own
pub simple-own : (alphabet : Letters) (dics : List (Priority × List Entry)) (kind : Kind)
    (text : List ℕ) (row : List Entry) → (kind ≢ Word) → AreOwnSimple alphabet kind text row →
    AreSimpleOf alphabet dics kind text row
simple-own alphabet dics Word text row other own = absurd (other refl)
simple-own alphabet dics Space text row other own = own
simple-own alphabet dics Other text row other own = own
simple-own alphabet dics Sentence text row other own = own
simple-own alphabet dics Stop text row other own = own
simple-own alphabet dics Tag text row other own = own

module _ (alphabet : Letters) (dics : List (Priority × List Entry)) (tokens : List Token)
    (first : ℕ) where
  -- so the row of another token begins with nothing
  pub start-other : IsSomeAnd (slice_get tokens first) (λ token. token.kind ≢ Tag) →
      AreCompoundUpTo alphabet dics tokens first (first + 1) []
  start-other other = row-own alphabet dics tokens first [] (go (slice_get tokens first) other)
    where
      go : (o : Option Token) → IsSomeAnd o (λ token. token.kind ≢ Tag) →
          IsSomeAnd o (λ token. AreOwnCompound alphabet token.kind token.text first [])
      go None is = absurd is
      go (Some token) is = no_compound alphabet token.kind token.text first is

  pub start-bound : IsSomeAnd (slice_get tokens first) (λ token. MayBound token.kind) →
      AreCompoundUpTo alphabet dics tokens first (first + 1) []
  start-bound bound = start-other (go (slice_get tokens first) bound)
    where
      go : (o : Option Token) → IsSomeAnd o (λ token. MayBound token.kind) →
          IsSomeAnd o (λ token. token.kind ≢ Tag)
      go None is = absurd is
      go (Some token) is = λ tag. subst MayBound tag is

  -- and that of a tag is its own
  pub own-row : {Z E : Type 0} (entry : Entry) → first < length tokens →
      IsSomeAnd (slice_get tokens first) (λ t. (t.kind ≡ Tag) × IsTag t.text entry) →
      (r : Result (Vec (ℕ × Entry) Z) E) →
      IfOk r (λ row. IsSimpleForm alphabet entry → row.items ≡ []) →
      IfOk r (λ row. (IsSimpleForm alphabet entry → ⊥) → row.items ≡ (first, entry) ∷ []) →
      IfOk r (λ row. IsCompoundRow alphabet dics tokens first row.items)
  own-row entry lt tag (Err e) letters others = tt
  own-row entry lt tag (Ok row) letters others =
      row-whole alphabet dics tokens first (first + 1) row.items (omega (arith, lt))
      (row-own alphabet dics tokens first row.items (own (slice_get tokens first) tag))
      (none-unbounded alphabet dics tokens first Tag (kind (slice_get tokens first) tag) (λ may. may))
    where
      own : (o : Option Token) → IsSomeAnd o (λ t. (t.kind ≡ Tag) × IsTag t.text entry) →
          IsSomeAnd o (λ t. AreOwnCompound alphabet t.kind t.text first row.items)
      own None is = absurd is
      own (Some token) is =
          subst (λ (k : Kind). AreOwnCompound alphabet k token.text first row.items) (sym is.0)
          (record { entry = entry; tag = is.1; letters = letters; others = others })

      kind : (o : Option Token) → IsSomeAnd o (λ t. (t.kind ≡ Tag) × IsTag t.text entry) →
          IsSomeAnd o (λ t. Tag ≡ t.kind)
      kind None is = absurd is
      kind (Some token) is = sym is.0

-- the simple row of a tag
pub own-simple : {Z E : Type 0} (alphabet : Letters) (tokens : List Token) (place : ℕ)
    (entry : Entry) →
    IsSomeAnd (slice_get tokens place) (λ t. (t.kind ≡ Tag) × IsTag t.text entry) →
    (r : Result (Vec Entry Z) E) →
    IfOk r (λ row. IsSimpleForm alphabet entry → row.items ≡ entry ∷ []) →
    IfOk r (λ row. (IsSimpleForm alphabet entry → ⊥) → row.items ≡ []) →
    IfOk r (λ row. IsOwnRow alphabet tokens place row.items)
own-simple alphabet tokens place entry tag (Err e) letters others = tt
own-simple alphabet tokens place entry tag (Ok row) letters others = own (slice_get tokens place) tag
  where
    own : (o : Option Token) → IsSomeAnd o (λ t. (t.kind ≡ Tag) × IsTag t.text entry) →
        IsSomeAnd o (λ t. AreOwnSimple alphabet t.kind t.text row.items)
    own None is = absurd is
    own (Some token) is =
        subst (λ (k : Kind). AreOwnSimple alphabet k token.text row.items) (sym is.0)
        (record { entry = entry; tag = is.1; letters = letters; others = others })

-- and of another token
pub own-nothing : (alphabet : Letters) (tokens : List Token) (place : ℕ) →
    IsSomeAnd (slice_get tokens place) (λ t. t.kind ≢ Tag) → IsOwnRow alphabet tokens place []
own-nothing alphabet tokens place other = go (slice_get tokens place) other
  where
    go : (o : Option Token) → IsSomeAnd o (λ t. t.kind ≢ Tag) →
        IsSomeAnd o (λ t. AreOwnSimple alphabet t.kind t.text [])
    go None is = absurd is
    go (Some token) is = no-simple alphabet token.kind token.text is
