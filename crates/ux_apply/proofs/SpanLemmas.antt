-- Where no span that begins at a token has an entry, however far it goes.
use Rattle.std.proofs.Common.{arith, below_more, ◌≡◌, ℕ, zero, suc, ◌+◌, ◌-◌, ◌<◌, ◌≤◌, List, [], ◌∷◌, ◌++◌, map, length, take, drop, refl, sym, ◌∙◌, ap, subst, append_assoc, append-nil}
use Rattle.std.specs.Prelude.{Option, Some, None, IsSomeAnd, IsUtf8, slice_get, slice_range}
use Rattle.std.proofs.lemmas.List.{drop-drop, take-append-drop, take-take, drop-take}
use Rattle.std.proofs.lemmas.Option.{none-some, same_Some}
use Rattle.ux_alphabet.specs.Letters.{Letters}
use Rattle.ux_dela.specs.declared.entry.Entry.{Entry}
use Rattle.ux_tokens.specs.declared.kind.Kind.{Kind}
use Rattle.ux_tokens.specs.declared.kind.Kind.TheVariants.{Word, Space, Other, Sentence, Stop, Tag}
use Rattle.ux_tokens.specs.Tokens.{Token, joined}
use Rattle.ux_lexical_tables.specs.Spans.{IsSpan, MayBound, MayStand, text_of}
use Rattle.ux_apply.specs.declared.priority.Priority.{Priority}
use Rattle.ux_apply.specs.Applying.{AreApplying}
use Rattle.ux_apply.specs.Applied.{AreOfSpan, AreCompoundUpTo}
use Rattle.ux_apply.specs.Kept.{HaveNone, IsFront, NoneBegins}
use Rattle.ux_apply.proofs.CompoundLemmas.{row-more}
use Rattle.ux_apply.proofs.NothingLemmas.{nothing-applies}

-- what is known of a token's kind
kind_has : (P : Kind → Type 0) (o : Option Token) (kind : Kind) →
    IsSomeAnd o (λ token. kind ≡ token.kind) → IsSomeAnd o (λ token. P token.kind) → P kind
kind_has P None kind is has = absurd is
kind_has P (Some token) kind is has = subst P (sym is) has

-- the text of a list in two parts
joined-append : (xs ys : List Token) → joined (xs ++ ys) ≡ joined xs ++ joined ys
joined-append [] ys = refl
joined-append (token ∷ xs) ys =
    ap (λ (l : List ℕ). token.text ++ l) (joined-append xs ys)
    ∙ sym (append_assoc token.text (joined xs) (joined ys))

take-parts : (m n : ℕ) (xs : List Token) → take (m + n) xs ≡ take m xs ++ take n (drop m xs)
take-parts m n xs =
    sym (take-append-drop m (take (m + n) xs))
    ∙ (ap (λ (l : List Token). l ++ drop m (take (m + n) xs)) (take-take m (m + n) xs (omega arith))
    ∙ ap (λ (l : List Token). take m xs ++ l) (drop-take m n xs))

-- the text of a span begins with that of a shorter one
pub text_of-longer : (tokens : List Token) (first last later : ℕ) → first ≤ last →
    last ≤ later → (rest : List ℕ) × (text_of tokens first later ≡ text_of tokens first last ++ rest)
text_of-longer tokens first last later ordered on =
    let m = last + 1 - first in
    let n = later - last in
    let behind = drop first tokens in
    let sum : later + 1 - first ≡ m + n = omega arith in (
      joined (take n (drop m behind)),
      ap (λ (k : ℕ). joined (take k behind)) sum
          ∙ (ap joined (take-parts m n behind)
          ∙ joined-append (take m behind) (take n (drop m behind))),
    )

-- the text of neighbouring tokens goes on with that of the next ones
pub joined-on : (tokens : List Token) (first next end : ℕ) → first ≤ next → next ≤ end →
    joined (slice_range tokens first next) ++ joined (slice_range tokens next end)
    ≡ joined (slice_range tokens first end)
joined-on tokens first next end from to =
    let m = next - first in
    let n = end - next in
    let behind = drop first tokens in
    let sum : m + n ≡ end - first = omega arith in
    let place : first + m ≡ next = omega arith in
    let rest : drop m behind ≡ drop next tokens =
    drop-drop m first tokens ∙ ap (λ (k : ℕ). drop k tokens) place in
    ap (λ (l : List Token). joined (take m behind) ++ joined (take n l)) (sym rest)
    ∙ (sym (joined-append (take m behind) (take n (drop m behind)))
    ∙ (ap joined (sym (take-parts m n behind))
    ∙ ap (λ (k : ℕ). joined (take k behind)) sum))

-- that of no tokens is empty
pub joined-none : (tokens : List Token) (first : ℕ) → [] ≡ joined (slice_range tokens first first)
joined-none tokens first =
    let none : 0 ≡ first - first = omega arith in
    ap (λ (k : ℕ). joined (take k (drop first tokens))) none

-- what may bound a span may stand in it
bound-stands : (kind : Kind) → MayBound kind → MayStand kind
bound-stands Word may = tt
bound-stands Space may = tt
bound-stands Other may = tt
bound-stands Sentence may = may
bound-stands Stop may = may
bound-stands Tag may = may

-- what is known of a token by its kind
pub has_kind : (P : Kind → Type 0) (o : Option Token) (kind : Kind) →
    IsSomeAnd o (λ token. kind ≡ token.kind) → P kind → IsSomeAnd o (λ token. P token.kind)
has_kind P None kind is has = absurd is
has_kind P (Some token) kind is has = subst P is has

module _ (tokens : List Token) (first : ℕ) where
  stands_alone : (o : Option Token) → IsSomeAnd o (λ token. MayBound token.kind) →
      IsSomeAnd o (λ token. MayStand token.kind)
  stands_alone None bound = absurd bound
  stands_alone (Some token) bound = bound-stands token.kind bound

  -- one token more in a front
  pub front-more : (last : ℕ) (kind : Kind) → IsFront tokens first last →
      IsSomeAnd (slice_get tokens last) (λ t. kind ≡ t.kind) → MayStand kind →
      IsFront tokens first (last + 1)
  front-more last kind front at stands = record {
    begins = front.begins;
    inside = λ i ordered below.
        below_more (λ k. first ≤ k → IsSomeAnd (slice_get tokens k) (λ t. MayStand t.kind)) last
        (λ k lt le. front.inside k le lt)
        (λ _. has_kind MayStand (slice_get tokens last) kind at stands) i below ordered;
  }

  -- the first token
  pub front-start : IsSomeAnd (slice_get tokens first) (λ token. MayBound token.kind) →
      IsFront tokens first (first + 1)
  front-start bound = record {
    begins = bound;
    inside = λ i ordered below.
        let same : first ≡ i = omega arith in
        subst (λ (k : ℕ). IsSomeAnd (slice_get tokens k) (λ t. MayStand t.kind)) same
        (stands_alone (slice_get tokens first) bound);
  }

  -- a front and a token that may be the last one are a span
  pub span-front : (last : ℕ) (kind : Kind) → IsFront tokens first last → first < last →
      IsSomeAnd (slice_get tokens last) (λ t. kind ≡ t.kind) → MayBound kind →
      IsSpan tokens first last
  span-front last kind front ordered at bounds =
      let all = front-more last kind front at (bound-stands kind bounds) in record {
        in_order = omega arith;
        begins = front.begins;
        ends = has_kind MayBound (slice_get tokens last) kind at bounds;
        inside = λ i le below. all.inside i le (omega arith);
      }

module _ (alphabet : Letters) (dics : List (Priority × List Entry)) (tokens : List Token)
    (first : ℕ) where
  -- tokens that are no span have no entries
  no_span : (last : ℕ) → (IsSpan tokens first last → ⊥) → AreOfSpan alphabet dics tokens first last []
  no_span last isnt = record { applying = λ is. absurd (isnt is); none = λ _. refl }

  -- where the first token can't be that of a span
  pub none-unbounded : (kind : Kind) → IsSomeAnd (slice_get tokens first) (λ t. kind ≡ t.kind) →
      (MayBound kind → ⊥) → HaveNone alphabet dics tokens first (first + 1)
  none-unbounded kind at isnt later on =
      no_span later (λ is. isnt (kind_has MayBound (slice_get tokens first) kind at is.begins))

  -- where a token can't stand in a span
  pub none-past : (last : ℕ) (kind : Kind) →
      IsSomeAnd (slice_get tokens last) (λ t. kind ≡ t.kind) → first ≤ last →
      (MayStand kind → ⊥) → HaveNone alphabet dics tokens first last
  none-past last kind at ordered isnt later on =
      no_span later
      (λ is. isnt (kind_has MayStand (slice_get tokens last) kind at (is.inside last ordered on)))

  -- where the last token can't be that of a span
  pub none-here : (last : ℕ) (kind : Kind) →
      IsSomeAnd (slice_get tokens last) (λ t. kind ≡ t.kind) → (MayBound kind → ⊥) →
      AreOfSpan alphabet dics tokens first last []
  none-here last kind at isnt =
      no_span last (λ is. isnt (kind_has MayBound (slice_get tokens last) kind at is.ends))

  -- where no form begins with characters that fit the text so far
  pub none-begins : (last : ℕ) (text : List ℕ) → text ≡ text_of tokens first last →
      IsUtf8 text → first ≤ last → NoneBegins alphabet dics text →
      (later : ℕ) → last ≤ later → AreOfSpan alphabet dics tokens first later []
  none-begins last text is utf8 ordered begin later on =
      let longer = text_of-longer tokens first last later ordered on in
      let whole : text_of tokens first later ≡ text ++ longer.0 =
      longer.1 ∙ ap (λ (t : List ℕ). t ++ longer.0) (sym is) in record {
        applying = λ span. subst (λ (t : List ℕ). AreApplying alphabet dics t []) (sym whole)
            (nothing-applies alphabet text utf8 longer.0 dics begin);
        none = λ _. refl;
      }

  -- where a form may begin with the first token alone, but none does
  pub none-first : (token : Token) → slice_get tokens first ≡ Some token → IsUtf8 token.text →
      NoneBegins alphabet dics token.text → HaveNone alphabet dics tokens first (first + 1)
  none-first token at utf8 begin later on =
      none-begins first token.text (one_text token at) utf8 (omega arith) begin later (omega arith)
    where
      head : (xs : List Token) (t : Token) (k : ℕ) → slice_get xs k ≡ Some t →
          joined (take 1 (drop k xs)) ≡ t.text
      head [] t k is = absurd (none-some t is)
      head (x ∷ xs) t zero is =
          append-nil x.text ∙ ap (λ (u : Token). u.text) (same_Some x t is)
      head (x ∷ xs) t (suc k) is = head xs t k is

      one_text : (t : Token) → slice_get tokens first ≡ Some t → t.text ≡ text_of tokens first first
      one_text t is =
          let one : first + 1 - first ≡ 1 = omega arith in
          sym (ap (λ (k : ℕ). joined (take k (drop first tokens))) one ∙ head tokens t first is)

  -- where a form may begin with a span, its entries are those that apply
  pub of_span : (last : ℕ) (text : List ℕ) (entries : List Entry) →
      text ≡ text_of tokens first last → IsSpan tokens first last →
      AreApplying alphabet dics text entries → AreOfSpan alphabet dics tokens first last entries
  of_span last text entries is span applying = record {
    applying = λ _. subst (λ (t : List ℕ). AreApplying alphabet dics t entries) is applying;
    none = λ isnt. absurd (isnt span);
  }

  -- the row so far is whole where no later span has an entry
  pub row-ends : (last : ℕ) (row : List (ℕ × Entry)) (n : ℕ) →
      AreCompoundUpTo alphabet dics tokens first last row → HaveNone alphabet dics tokens first last →
      AreCompoundUpTo alphabet dics tokens first (last + n) row
  row-ends last row zero so_far nothing =
      subst (λ (k : ℕ). AreCompoundUpTo alphabet dics tokens first k row) (omega arith) so_far
  row-ends last row (suc n) so_far nothing =
      let before = row-ends last row n so_far nothing in
      let same : row ++ map (λ (e : Entry). (last + n, e)) [] ≡ row = append-nil row in
      let end : last + n + 1 ≡ last + suc n = omega arith in
      subst (λ (k : ℕ). AreCompoundUpTo alphabet dics tokens first k row) end
      (subst (AreCompoundUpTo alphabet dics tokens first (last + n + 1)) same
      (row-more alphabet dics tokens first (last + n) row [] before
      (nothing (last + n) (omega arith))))

  pub row-whole : (last : ℕ) (row : List (ℕ × Entry)) → last ≤ length tokens →
      AreCompoundUpTo alphabet dics tokens first last row → HaveNone alphabet dics tokens first last →
      AreCompoundUpTo alphabet dics tokens first (length tokens) row
  row-whole last row within so_far nothing =
      let end : last + (length tokens - last) ≡ length tokens = omega arith in
      subst (λ (k : ℕ). AreCompoundUpTo alphabet dics tokens first k row) end
      (row-ends last row (length tokens - last) so_far nothing)
