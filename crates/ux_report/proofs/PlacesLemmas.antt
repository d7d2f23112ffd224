-- Places of the words of a text, as they are found, and the lines that stand there.
use Rattle.std.proofs.Common.{arith, ◌≡◌, ◌↔◌, ℕ, zero, suc, ◌+◌, ◌<◌, Bool, List, [], ◌∷◌, length, set, refl, sym, ◌∙◌, ap, subst, inl, inr}
use Rattle.std.specs.Prelude.{IsSomeAnd, IsTrue, Option, None, Some, slice_get}
use Rattle.std.proofs.lemmas.Bool.{cases_eq}
use Rattle.std.proofs.lemmas.List.{length-set}
use Rattle.std.proofs.lemmas.Option.{same_Some}
use Rattle.ux_dela.specs.declared.entry.Entry.{Entry}
use Rattle.ux_tokens.specs.declared.kind.Kind.TheVariants.{Word}
use Rattle.ux_tokens.specs.Tokens.{Token}
use Rattle.ux_tokens.specs.Numbers.{different_texts}
use Rattle.ux_lexical_tables.specs.Tables.{Tables}
use Rattle.ux_report.specs.Lines.{FromSome, HasMore, IsPrinted, IsSimpleAt, IsText}
use Rattle.ux_report.specs.Words.{AreWordPlacesUpTo, HasPlace, IsWordAt}
use Rattle.ux_report.proofs.LinesLemmas.{more-same}

-- what is put at a place stands there
set-same : {X : Type 0} (xs : List X) (n : ℕ) (x : X) → n < length xs →
    slice_get (set xs n x) n ≡ Some x
set-same [] n x lt = absurd (omega (arith, lt))
set-same (y ∷ xs) zero x lt = refl
set-same (y ∷ xs) (suc n) x lt = set-same xs n x (omega (arith, lt))

-- and what stands at another one stays
set-other : {X : Type 0} (xs : List X) (n k : ℕ) (x : X) → (k ≡ n → ⊥) →
    slice_get (set xs n x) k ≡ slice_get xs k
set-other [] n k x other = refl
set-other (y ∷ xs) zero zero x other = absurd (other refl)
set-other (y ∷ xs) zero (suc k) x other = refl
set-other (y ∷ xs) (suc n) zero x other = refl
set-other (y ∷ xs) (suc n) (suc k) x other = set-other xs n k x (λ same. other (ap suc same))

-- a word with its number stands at the place
pub word-at : (tokens : List Token) (n i : ℕ) (word : Bool) →
    IsSomeAnd (slice_get tokens i) (λ token. IsTrue word ↔ (token.kind ≡ Word)) →
    IsSomeAnd (slice_get tokens i) (λ token. slice_get (different_texts tokens) n ≡ Some token.text) →
    IsTrue word → IsWordAt tokens n i
word-at tokens n i word kind numbered is = go (slice_get tokens i) refl kind numbered
  where
    go : (o : Option Token) → slice_get tokens i ≡ o →
        IsSomeAnd o (λ token. IsTrue word ↔ (token.kind ≡ Word)) →
        IsSomeAnd o (λ token. slice_get (different_texts tokens) n ≡ Some token.text) →
        IsWordAt tokens n i
    go None at a b = absurd a
    go (Some token) at a b =
        record { token = token; stands = at; word = a.0 is; numbered = b }

-- and no word does
pub no-word : (tokens : List Token) (i : ℕ) (word : Bool) →
    IsSomeAnd (slice_get tokens i) (λ token. IsTrue word ↔ (token.kind ≡ Word)) →
    (IsTrue word → ⊥) → (token : Token) → slice_get tokens i ≡ Some token → token.kind ≡ Word → ⊥
no-word tokens i word kind isnt token at is =
    isnt ((subst (λ (o : Option Token). IsSomeAnd o (λ t. IsTrue word ↔ (t.kind ≡ Word))) at kind).1
    is)

module _ (tokens : List Token) (i : ℕ) (places : List (Option ℕ))
    (before : AreWordPlacesUpTo tokens i places) where
  -- no word more
  pub places-other : ((token : Token) → slice_get tokens i ≡ Some token → token.kind ≡ Word → ⊥) →
      AreWordPlacesUpTo tokens (i + 1) places
  places-other isnt = record {
    each_number = before.each_number;
    sound = before.sound;
    whole = λ place token lt at word. elim (cases_eq place i) [
      | inl same ↦ absurd (isnt token (ap (slice_get tokens) (sym same) ∙ at) word)
      | inr other ↦ before.whole place token (omega (arith, lt, other)) at word
    ];
  }

  -- one word more
  pub places-word : (n : ℕ) → n < length (different_texts tokens) → IsWordAt tokens n i →
      AreWordPlacesUpTo tokens (i + 1) (set places n (Some i))
  places-word n below is = record {
    each_number = length-set places n (Some i) ∙ before.each_number;
    sound = λ number place at. elim (cases_eq number n) [
      | inl same ↦ sound_here number place same at
      | inr other ↦ before.sound number place (sym (set-other places n number (Some i) other) ∙ at)
    ];
    whole = λ place token lt at word. elim (cases_eq place i) [
      | inl same ↦ whole_here token (ap (slice_get tokens) (sym same) ∙ at)
      | inr other ↦ whole_there token.text (before.whole place token (omega (arith, lt, other)) at word)
    ];
  }
    where
      here : slice_get (set places n (Some i)) n ≡ Some (Some i)
      here = let long = before.each_number in
          set-same places n (Some i) (omega (arith, below, long))

      sound_here : (number place : ℕ) → number ≡ n →
          slice_get (set places n (Some i)) number ≡ Some (Some place) →
          IsWordAt tokens number place
      sound_here number place same at =
          let moved : slice_get (set places n (Some i)) n ≡ Some (Some place) =
          ap (slice_get (set places n (Some i))) (sym same) ∙ at in
          let one : i ≡ place = same_Some i place
          (same_Some (Some i) (Some place) (sym here ∙ moved)) in
          subst (λ (k : ℕ). IsWordAt tokens k place) (sym same)
          (subst (IsWordAt tokens n) one is)

      whole_here : (token : Token) → slice_get tokens i ≡ Some token →
          HasPlace tokens (set places n (Some i)) token.text
      whole_here token at =
          let one : is.token ≡ token = same_Some is.token token (sym is.stands ∙ at) in
          (n, i, here, is.numbered ∙ ap (λ (t : Token). Some t.text) one)

      whole_there : (text : List ℕ) → HasPlace tokens places text →
          HasPlace tokens (set places n (Some i)) text
      whole_there text kept = elim (cases_eq kept.0 n) [
        | inl same ↦
            (n, i, here, ap (slice_get (different_texts tokens)) (sym same) ∙ kept.3)
        | inr other ↦
            (kept.0, kept.1, set-other places n kept.0 (Some i) other ∙ kept.2, kept.3)
      ]

-- the lines of the entries at a place
pub simple-there : (tables : Tables) (place : ℕ) (row : List Entry) (old all_new : List (List ℕ)) →
    IsSomeAnd (slice_get tables.simple place) (λ there. row ≡ there) →
    HasMore old (FromSome row IsPrinted) all_new →
    HasMore old (IsSimpleAt tables (Some place)) all_new
simple-there tables place row old all_new is =
    more-same (FromSome row IsPrinted) (IsSimpleAt tables (Some place)) old all_new
    (λ line. go line (slice_get tables.simple place) refl is)
  where
    go : (line : List ℕ) (o : Option (List Entry)) → slice_get tables.simple place ≡ o →
        IsSomeAnd o (λ there. row ≡ there) →
        FromSome row IsPrinted line ↔ IsSimpleAt tables (Some place) line
    go line None at given = absurd given
    go line (Some there) at given = (
      λ from. (row, at ∙ ap (λ (l : List Entry). Some l) (sym given), from),
      λ from.
          let one : from.0 ≡ row = same_Some from.0 there (sym from.1 ∙ at) ∙ sym given in
          subst (λ (l : List Entry). FromSome l IsPrinted line) one from.2,
    )

-- the line of the word at a place
pub text-there : (tokens : List Token) (places : List (Option ℕ)) (number place : ℕ)
    (word : List ℕ) (old all_new : List (List ℕ)) →
    slice_get places number ≡ Some (Some place) →
    IsSomeAnd (slice_get tokens place) (λ token. word ≡ token.text) →
    HasMore old (λ (other : List ℕ). other ≡ word) all_new →
    HasMore old (IsText tokens places number) all_new
text-there tokens places number place word old all_new kept is =
    more-same (λ (other : List ℕ). other ≡ word) (IsText tokens places number) old all_new
    (λ line. go line (slice_get tokens place) refl is)
  where
    go : (line : List ℕ) (o : Option Token) → slice_get tokens place ≡ o →
        IsSomeAnd o (λ token. word ≡ token.text) →
        (line ≡ word) ↔ IsText tokens places number line
    go line None at given = absurd given
    go line (Some token) at given = (
      λ same. (place, kept, token, at, same ∙ given),
      λ from.
          let one : from.0 ≡ place = same_Some from.0 place
          (same_Some (Some from.0) (Some place) (sym from.1 ∙ kept)) in
          let stands : slice_get tokens place ≡ Some from.2 =
          ap (slice_get tokens) (sym one) ∙ from.3 in
          let there : from.2 ≡ token = same_Some from.2 token (sym stands ∙ at) in
          from.4 ∙ (ap (λ (t : Token). t.text) there ∙ sym given),
    )
