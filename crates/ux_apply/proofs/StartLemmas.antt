-- Where no form begins with a token, or none with the space behind it, no span has an entry.
use Rattle.std.proofs.Common.{arith, ◌≡◌, ◌⊎◌, ℕ, zero, suc, ◌+◌, ◌-◌, ◌<◌, ◌≤◌, List, [], ◌∷◌, ◌++◌, length, take, drop, append-nil, refl, sym, ◌∙◌, ap, subst, inl, inr}
use Rattle.std.specs.Prelude.{Option, Some, None, IsSomeAnd, slice_get}
use Rattle.std.specs.List.{AllZip}
use Rattle.std.proofs.lemmas.Option.{none-some, same_Some, slice_get_within}
use Rattle.ux_alphabet.specs.Letters.{Letters}
use Rattle.ux_dela.specs.declared.entry.Entry.{Entry}
use Rattle.ux_tokens.specs.declared.kind.Kind.TheVariants.{Space}
use Rattle.ux_tokens.specs.Tokens.{Token, SPACE, joined}
use Rattle.ux_tokens.specs.Numbers.{different_texts}
use Rattle.ux_lexical_tables.specs.Spans.{MayBound, text_of}
use Rattle.ux_apply.specs.declared.priority.Priority.{Priority}
use Rattle.ux_apply.specs.declared.starts.Start.{Start}
use Rattle.ux_apply.specs.declared.starts.Start.TheVariants.{Never, Unspaced, Spaced}
use Rattle.ux_apply.specs.Applied.{AreCompoundUpTo}
use Rattle.ux_apply.specs.Kept.{HaveNone, IsFront, IsNearestLast, IsOver, IsSpaceAt, IsStart}
use Rattle.ux_apply.proofs.CompoundLemmas.{row-more}
use Rattle.ux_apply.proofs.OwnLemmas.{start-bound}
use Rattle.ux_apply.proofs.SpanLemmas.{front-more, front-start, none-begins, none-first, none-here}
use Rattle.ux_apply.proofs.ZipLemmas.{zip-at}

-- the token that stands where something is known of one
there : {P : Token → Type 0} (o : Option Token) → IsSomeAnd o P →
    (token : Token) × (o ≡ Some token) × P token
there None is = absurd is
there (Some token) is = (token, refl, is)

-- what is known of a space
space_kind : (o : Option Token) → IsSomeAnd o (λ t. (Space ≡ t.kind) × (SPACE ∷ [] ≡ t.text)) →
    IsSomeAnd o (λ t. Space ≡ t.kind)
space_kind None is = absurd is
space_kind (Some token) is = is.0

-- the text of two neighbouring tokens
two_texts : (xs : List Token) (k : ℕ) (t u : Token) → slice_get xs k ≡ Some t →
    slice_get xs (suc k) ≡ Some u → joined (take 2 (drop k xs)) ≡ t.text ++ u.text
two_texts [] k t u is next = absurd (none-some t is)
two_texts (x ∷ []) zero t u is next = absurd (none-some u next)
two_texts (x ∷ y ∷ xs) zero t u is next =
    ap (λ (l : List ℕ). x.text ++ l) (append-nil y.text)
    ∙ (ap (λ (v : Token). v.text ++ y.text) (same_Some x t is)
    ∙ ap (λ (v : Token). t.text ++ v.text) (same_Some y u next))
two_texts (x ∷ []) (suc k) t u is next = absurd (none-some t is)
two_texts (x ∷ y ∷ xs) (suc k) t u is next = two_texts (y ∷ xs) k t u is next

module _ (alphabet : Letters) (dics : List (Priority × List Entry)) (tokens : List Token)
    (first : ℕ) where
  -- none where no form begins with the token and a space
  none-spaced : (token : Token) → slice_get tokens first ≡ Some token →
      IsStart alphabet dics token.text Unspaced → IsSpaceAt tokens (first + 1) →
      HaveNone alphabet dics tokens first (first + 1)
  none-spaced token at begin space later on =
      let next = there (slice_get tokens (first + 1)) space in
      let behind : first + 1 ≡ suc first = omega arith in
      let two : first + 1 + 1 - first ≡ 2 = omega arith in
      let text : token.text ++ SPACE ∷ [] ≡ text_of tokens first (first + 1) =
      ap (λ (l : List ℕ). token.text ++ l) next.2.1
      ∙ (sym (two_texts tokens first token next.0 at
      (ap (slice_get tokens) (sym behind) ∙ next.1))
      ∙ ap (λ (k : ℕ). joined (take k (drop first tokens))) (sym two)) in
      none-begins alphabet dics tokens first (first + 1) (token.text ++ SPACE ∷ []) text begin.0
      (omega arith) begin.1 later on

  -- none where all is over
  pub none-over : (starts : List Start) (n : ℕ) (mark : Start) →
      AllZip (IsStart alphabet dics) (different_texts tokens) starts →
      (mark ≡ Spaced) ⊎ (slice_get starts n ≡ Some mark) →
      IsSomeAnd (slice_get tokens first)
      (λ t. slice_get (different_texts tokens) n ≡ Some t.text) →
      IsOver tokens first mark → HaveNone alphabet dics tokens first (first + 1)
  none-over starts n mark all (inl spaced) numbered over =
      absurd (subst (IsOver tokens first) spaced over)
  none-over starts n mark all (inr at) numbered over =
      let token = there (slice_get tokens first) numbered in
      let own = zip-at (IsStart alphabet dics) (different_texts tokens) starts n token.0.text all
      token.2 in
      let same : own.0 ≡ mark = same_Some own.0 mark (sym own.1 ∙ at) in
      by mark token.0 token.1 (subst (IsStart alphabet dics token.0.text) same own.2) over
    where
      by : (s : Start) (token : Token) → slice_get tokens first ≡ Some token →
          IsStart alphabet dics token.text s → IsOver tokens first s →
          HaveNone alphabet dics tokens first (first + 1)
      by Never token is begin past =
          none-first alphabet dics tokens first token is begin.0 begin.1
      by Unspaced token is begin past = none-spaced token is begin past
      by Spaced token is begin past = absurd past

  -- up to the nearest token that has to be tried there are no entries
  pub row-start : (nearest : ℕ) →
      IsSomeAnd (slice_get tokens first) (λ token. MayBound token.kind) →
      IsNearestLast tokens first nearest → AreCompoundUpTo alphabet dics tokens first nearest []
  row-start nearest bound (inl next) =
      subst (λ (k : ℕ). AreCompoundUpTo alphabet dics tokens first k []) (sym next)
      (start-bound alphabet dics tokens first bound)
  row-start nearest bound (inr behind) =
      let end : first + 1 + 1 ≡ nearest = omega (arith, behind.0) in
      subst (λ (k : ℕ). AreCompoundUpTo alphabet dics tokens first k []) end
      (row-more alphabet dics tokens first (first + 1) [] [] (start-bound alphabet dics tokens first bound)
      (none-here alphabet dics tokens first (first + 1) Space
      (space_kind (slice_get tokens (first + 1)) behind.1) (λ may. may)))

-- and the tokens before it may stand in a span
pub front-nearest : (tokens : List Token) (first nearest : ℕ) →
    IsSomeAnd (slice_get tokens first) (λ token. MayBound token.kind) →
    IsNearestLast tokens first nearest → IsFront tokens first nearest
front-nearest tokens first nearest bound (inl next) =
    subst (IsFront tokens first) (sym next) (front-start tokens first bound)
front-nearest tokens first nearest bound (inr behind) =
    let end : first + 1 + 1 ≡ nearest = omega (arith, behind.0) in
    subst (IsFront tokens first) end
    (front-more tokens first (first + 1) Space (front-start tokens first bound)
    (space_kind (slice_get tokens (first + 1)) behind.1) tt)

-- which lies in the text or right behind it
pub nearest-within : (tokens : List Token) (first nearest : ℕ) → first < length tokens →
    IsNearestLast tokens first nearest → nearest ≤ length tokens
nearest-within tokens first nearest lt (inl next) = omega (arith, lt, next)
nearest-within tokens first nearest lt (inr behind) =
    let next = there (slice_get tokens (first + 1)) behind.1 in
    let below = slice_get_within tokens (first + 1) next.0 next.1 in
    omega (arith, below, behind.0)
