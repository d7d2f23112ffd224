-- Positions that a mask accepts, as they are collected.
use Rattle.std.proofs.Common.{arith, ◌≡◌, ◌⊎◌, ◌↔◌, ℕ, ◌+◌, ◌<◌, ◌≤◌, Bool, true, false, List, [], ◌∷◌, ◌++◌, get_or, get_or-take, length, length-take, take, refl, sym, ◌∙◌, ap, subst, inl, inr}
use Rattle.std.specs.Prelude.{Option, Some, None, All, AllPairs, Contains, IfOk, IsSomeAnd, IsTrue, Result, Vec, slice_get}
use Rattle.std.specs.List.Sorted.{IsStrictlyIncreasing}
use Rattle.std.proofs.lemmas.Bool.{cases_lt, cases_order, false≢true}
use Rattle.std.proofs.lemmas.List.{get_or_append_left, get_or_push, length_push, take_more}
use Rattle.std.proofs.lemmas.List.Elements.{All-contains_itself, All-push, All-weaker, Contains-append_left, Contains-push, Contains-push_cases}
use Rattle.std.proofs.lemmas.Option.{same_Some, slice_get-get_or}
use Rattle.std.proofs.lemmas.Result.{IfOk-weaker}
use Rattle.ux_base.proofs.FirstsLemmas.{Contains-none}
use Rattle.ux_alphabet.specs.Letters.{Letters}
use Rattle.ux_dela.specs.declared.entry.Entry.{Entry}
use Rattle.ux_masks.specs.declared.mask.Mask.{Mask}
use Rattle.ux_masks.specs.declared.mask.Mask.TheVariants.{CDic}
use Rattle.ux_tokens.specs.declared.kind.Kind.TheVariants.{Word, Tag}
use Rattle.ux_tokens.specs.Tokens.{Token}
use Rattle.ux_lexical_tables.specs.Accepting.{Accepts, AreDigits, HasCompound, HasOwn, HasSimple, IsDigitAt, IsOne}
use Rattle.ux_lexical_tables.specs.Belonging.{Belongs}
use Rattle.ux_lexical_tables.specs.Ends.{AreEnds, AreEndsTo, EndsBy, EndsSo, HasSo, IsPut, IsThere}
use Rattle.ux_lexical_tables.specs.Tables.{Tables}
use Rattle.ux_lexical_tables.proofs.OneTokenLaws.{accepts_forward}

-- ascending numbers with a larger one behind them
rising_push : (xs : List ℕ) (x : ℕ) → IsStrictlyIncreasing xs → All (λ y. y < x) xs →
    IsStrictlyIncreasing (xs ++ x ∷ [])
rising_push xs x rising below k within = go (cases_order (k + 1) (length xs))
  where
    left : (j : ℕ) → j < length xs → get_or (xs ++ x ∷ []) j 0 ≡ get_or xs j 0
    left j lt = get_or_append_left xs (x ∷ []) 0 j lt

    last : get_or (xs ++ x ∷ []) (length xs) 0 ≡ x
    last = get_or_push xs x 0 (length xs) refl

    go : (k + 1 ≡ length xs) ⊎ ((k + 1 < length xs) ⊎ (length xs < k + 1)) →
        get_or (xs ++ x ∷ []) k 0 < get_or (xs ++ x ∷ []) (k + 1) 0
    go (inl end) =
        let here = left k (omega (arith, end)) in
        let there : get_or (xs ++ x ∷ []) (k + 1) 0 ≡ x =
        subst (λ (n : ℕ). get_or (xs ++ x ∷ []) n 0 ≡ x) (sym end) last in
        omega (arith, here, there, below k 0 (omega (arith, end)))
    go (inr (inl lt)) =
        omega (arith, left k (omega (arith, lt)), left (k + 1) lt, rising k lt)
    go (inr (inr past)) = absurd (omega (arith, past, within, length_push xs x))

-- the same positions by another word for them
pub ends_like : (P Q : ℕ → Type 0) → ((k : ℕ) → P k ↔ Q k) → (ends : List ℕ) → AreEnds P ends →
    AreEnds Q ends
ends_like P Q same ends are = record {
  exactly = λ k. (
    λ has. (same k).0 ((are.exactly k).0 has),
    λ is. (are.exactly k).1 ((same k).1 is),
  );
  ascending = are.ascending;
}

-- one position more
pub more_ends : (P : ℕ → Type 0) (ends : List ℕ) (end : ℕ) → AreEnds P ends →
    All (λ k. k < end) ends → AreEnds (λ k. P k ⊎ (k ≡ end)) (ends ++ end ∷ [])
more_ends P ends end are below = record {
  exactly = λ k. (
    λ has. elim (Contains-push_cases ends end k has) [
      | inl old ↦ inl ((are.exactly k).0 old)
      | inr is ↦ inr (sym is)
    ],
    λ is. elim is [
      | inl p ↦ Contains-append_left ends (end ∷ []) k ((are.exactly k).1 p)
      | inr same ↦ subst (Contains (ends ++ end ∷ [])) (sym same) (Contains-push ends end)
    ],
  );
  ascending = rising_push ends end are.ascending below;
}

-- one position alone
pub one_end : (P : ℕ → Type 0) (end : ℕ) → ((k : ℕ) → P k ↔ (k ≡ end)) → (ends : List ℕ) →
    ends ≡ end ∷ [] → AreEnds P ends
one_end P end same ends is =
    subst (AreEnds P) (sym is)
    (ends_like (λ k. ⊥ ⊎ (k ≡ end)) P
    (λ k. (
      λ either. elim either [ inl no_p ↦ absurd no_p | inr at ↦ (same k).1 at ],
      λ p. inr ((same k).0 p),
    )) (end ∷ [])
    (more_ends (λ k. ⊥) [] end
    (record {
      exactly = λ k. (λ has. Contains-none k has, λ p. absurd p);
      ascending = λ k within. absurd (omega (arith, within));
    }) (λ k d within. absurd (omega (arith, within)))))

-- all digits from a place on end at one place
pub digits_are : (tokens : List Token) (i end : ℕ) → i < end →
    ((place : ℕ) → i ≤ place → place < end → IsDigitAt tokens place) →
    (IsDigitAt tokens end → ⊥) → (k : ℕ) → AreDigits tokens i k ↔ (k ≡ end)
digits_are tokens i end some each all k = (
  λ are. go are (cases_order k end),
  λ is. subst (AreDigits tokens i) (sym is) (record { some = some; each = each; all = all }),
)
  where
    go : AreDigits tokens i k → (k ≡ end) ⊎ ((k < end) ⊎ (end < k)) → k ≡ end
    go are (inl same) = same
    go are (inr (inl below)) = absurd (are.all (each k (omega (arith, are.some)) below))
    go are (inr (inr above)) = absurd (all (are.each end (omega (arith, some)) above))

pub no_digits : (tokens : List Token) (i : ℕ) → (IsDigitAt tokens i → ⊥) → (k : ℕ) →
    AreDigits tokens i k → ⊥
no_digits tokens i none k are = none (are.each i (omega arith) are.some)

-- one step through a row of compound entries
module _ (IsSo : Entry → Type 0) (IsFirst : ℕ → Type 0) (row : List (ℕ × Entry)) (index : ℕ)
    (member : ℕ × Entry) (lt : index < length row) (at : member ≡ get_or row index member) where
  longer : take (index + 1) row ≡ take index row ++ member ∷ []
  longer =
      take_more row index member lt
      ∙ ap (λ (m : ℕ × Entry). take index row ++ m ∷ []) (sym at)

  -- the positions with one entry more
  entry_more : (k : ℕ) → EndsBy IsSo IsFirst (take (index + 1) row) k →
      EndsBy IsSo IsFirst (take index row) k ⊎ (IsSo member.1 × (k ≡ member.0 + 1))
  entry_more k (inl first) = inl (inl first)
  entry_more k (inr (last, entry, has, so, is)) =
      elim (Contains-push_cases (take index row) member (last, entry)
      (subst (λ (l : List (ℕ × Entry)). Contains l (last, entry)) longer has)) [
        | inl old ↦ inl (inr (last, entry, old, so, is))
        | inr same ↦ inr (
          subst IsSo (sym (ap (λ (m : ℕ × Entry). m.1) same)) so,
          is ∙ ap (λ (m : ℕ × Entry). m.0 + 1) (sym same),
        )
      ]

  entry_old : (k : ℕ) → EndsBy IsSo IsFirst (take index row) k →
      EndsBy IsSo IsFirst (take (index + 1) row) k
  entry_old k (inl first) = inl first
  entry_old k (inr (last, entry, has, so, is)) =
      inr (
        last,
        entry,
        subst (λ (l : List (ℕ × Entry)). Contains l (last, entry)) (sym longer)
            (Contains-append_left (take index row) (member ∷ []) (last, entry) has),
        so,
        is,
      )

  entry_new : (k : ℕ) → IsSo member.1 → k ≡ member.0 + 1 →
      EndsBy IsSo IsFirst (take (index + 1) row) k
  entry_new k so is =
      inr (
        member.0,
        member.1,
        subst (λ (l : List (ℕ × Entry)). Contains l (member.0, member.1)) (sym longer)
            (Contains-push (take index row) member),
        so,
        is,
      )

  module _ (i : ℕ) (first_is : (k : ℕ) → IsFirst k → k ≡ i + 1)
      (ordered : AllPairs (λ a b. b.0 < a.0 → ⊥) row) (low : i ≤ member.0) where
    same_at : (j : ℕ) (a b : ℕ × Entry) → j < length row → get_or row j a ≡ get_or row j b
    same_at j a b within =
        same_Some (get_or row j a) (get_or row j b)
        (sym (slice_get-get_or row j a within) ∙ slice_get-get_or row j b within)

    -- an earlier position isn't behind that of the entry
    earlier : (k : ℕ) → EndsBy IsSo IsFirst (take index row) k → k ≤ member.0 + 1
    earlier k (inl first) = omega (arith, first_is k first, low)
    earlier k (inr (last, entry, (j, within, is), so, same)) =
        let short = length-take index row in
        let before : j < index = omega (arith, within, short) in
        let there : get_or row j member ≡ (last, entry) =
        same_at j member (last, entry) (omega (arith, before, lt))
        ∙ (sym (get_or-take index row j (last, entry) before) ∙ is) in
        let not_less : (member.0 < last) → ⊥ = λ less. ordered j index member before lt
        (subst (λ (m : ℕ × Entry). m.0 < (get_or row j member).0) at
        (subst (λ (m : ℕ × Entry). member.0 < m.0) (sym there) less)) in
        let le : last ≤ member.0 = elim (cases_lt member.0 last) [
          | inl less ↦ absurd (not_less less)
          | inr le ↦ le
        ] in
        omega (arith, same, le)

    -- so the positions are told with one entry more
    pub put_more : (told now : ℕ) (old more : List ℕ) →
        AreEndsTo i told (EndsBy IsSo IsFirst (take index row)) old →
        IsPut told (member.0 + 1) (IsSo member.1) old more now →
        AreEndsTo i now (EndsBy IsSo IsFirst (take (index + 1) row)) more
    put_more told now old more before (inl (behind, so, grown, is)) =
        let end = member.0 + 1 in
        let P = EndsBy IsSo IsFirst (take index row) in
        let Q = EndsBy IsSo IsFirst (take (index + 1) row) in
        let less : All (λ k. k < end) old =
        All-weaker (λ k. k ≤ told) (λ k. k < end) (λ k le. omega (arith, le, behind)) old
        before.below in
        let most : All (λ k. k ≤ end) (old ++ end ∷ []) =
        All-push (λ k. k ≤ end) old end
        (All-weaker (λ k. k < end) (λ k. k ≤ end) (λ k lt'. omega (arith, lt')) old less)
        (omega arith) in
        subst (λ (n : ℕ). AreEndsTo i n Q more) (sym is)
        (subst (AreEndsTo i end Q) (sym grown) (record {
          are = ends_like (λ k. P k ⊎ (k ≡ end)) Q
              (λ k. (
                λ either. elim either [ inl p ↦ entry_old k p | inr same ↦ entry_new k so same ],
                λ q. elim (entry_more k q) [ inl p ↦ inl p | inr new ↦ inr new.1 ],
              )) (old ++ end ∷ []) (more_ends P old end before.are less);
          below = most;
          last = inr (Contains-push old end);
        }))
    put_more told now old more before (inr (isnt, same, is)) =
        let end = member.0 + 1 in
        let P = EndsBy IsSo IsFirst (take index row) in
        let Q = EndsBy IsSo IsFirst (take (index + 1) row) in
        let known : (k : ℕ) → IsSo member.1 → k ≡ end → P k = λ k so at_end.
        elim (cases_lt told end) [
          | inl behind ↦ absurd (isnt behind so)
          | inr past ↦ elim before.last [
            | inl start ↦ absurd (omega (arith, start, past, low))
            | inr has ↦ let p = (before.are.exactly told).0 has in
                let one : told ≡ k = omega (arith, earlier told p, past, at_end) in
                subst P one p
          ]
        ] in
        subst (λ (n : ℕ). AreEndsTo i n Q more) (sym is)
        (subst (AreEndsTo i told Q) (sym same) (record {
          are = ends_like P Q
              (λ k. (
                λ p. entry_old k p,
                λ q. elim (entry_more k q) [ inl p ↦ p | inr new ↦ known k new.0 new.1 ],
              )) old before.are;
          below = before.below;
          last = before.last;
        }))

-- the positions before the first compound entry
pub start_ends : (IsSo : Entry → Type 0) (row : List (ℕ × Entry)) (i told : ℕ) (accepts : Bool)
    (Has : Type 0) → (IsTrue accepts ↔ Has) →
    ((accepts ≡ true) × (told ≡ i + 1)) ⊎ ((accepts ≡ false) × (told ≡ i)) → (ends : List ℕ) →
    AreEnds (λ k. IsTrue accepts × (k ≡ i + 1)) ends →
    AreEndsTo i told (EndsBy IsSo (λ k. Has × (k ≡ i + 1)) (take 0 row)) ends
start_ends IsSo row i told accepts Has is by ends are = record {
  are = ends_like (λ k. IsTrue accepts × (k ≡ i + 1))
      (EndsBy IsSo (λ k. Has × (k ≡ i + 1)) (take 0 row))
      (λ k. (
        λ told. inl (is.0 told.0, told.1),
        λ either. elim either [
          | inl first ↦ (is.1 first.0, first.1)
          | inr some ↦ absurd (Contains-none (some.0, some.1) some.2)
        ],
      )) ends are;
  below = All-weaker (Contains ends) (λ k. k ≤ told) (λ k has. most k ((are.exactly k).0 has) by)
      ends (All-contains_itself ends);
  last = last by;
}
  where
    most : (k : ℕ) → IsTrue accepts × (k ≡ i + 1) →
        ((accepts ≡ true) × (told ≡ i + 1)) ⊎ ((accepts ≡ false) × (told ≡ i)) → k ≤ told
    most k first (inl true_so) = omega (arith, first.1, true_so.1)
    most k first (inr false_so) = absurd (false≢true (sym false_so.0 ∙ first.0))

    last : ((accepts ≡ true) × (told ≡ i + 1)) ⊎ ((accepts ≡ false) × (told ≡ i)) →
        (told ≡ i) ⊎ Contains ends told
    last (inl true_so) = inr ((are.exactly told).1 (true_so.0, true_so.1))
    last (inr false_so) = inl false_so.1

-- what a row is known to be
pub row_is : {X : Type 0} (row : X) (o : Option X) → IsSomeAnd o (λ given. row ≡ given) →
    o ≡ Some row
row_is row None is = absurd is
row_is row (Some given) is = ap Some (sym is)

-- the last tokens of a row lie from its token on and within the text
pub members_within : (alphabet : Letters) (tokens : List Token) (tables : Tables) →
    Belongs alphabet tokens tables → (i : ℕ) (row : List (ℕ × Entry)) →
    slice_get tables.compounds i ≡ Some row →
    All (λ member. (i ≤ member.0) × (member.0 < length tokens)) row
members_within alphabet tokens tables belongs i row at =
    All-weaker (Contains row) (λ (member : ℕ × Entry). (i ≤ member.0) × (member.0 < length tokens))
    (λ member has.
    let forward = accepts_forward alphabet tokens tables belongs CDic i (member.0 + 1)
    (row, at, member.0, member.1, has, tt, refl) in
    (omega (arith, forward.0), omega (arith, forward.1))) row (All-contains_itself row)

module _ {Z E : Type 0} (tokens : List Token) (tables : Tables) (i : ℕ)
    (r : Result (Vec ℕ Z) E) where
  -- the answer is these positions
  abbrev pub Answers : (ℕ → Type 0) → Type 0
  Answers P = IfOk r (λ ends. AreEnds P ends.items)

  pub answers_like : (P Q : ℕ → Type 0) → ((k : ℕ) → P k ↔ Q k) → Answers P → Answers Q
  answers_like P Q same are =
      IfOk-weaker r (λ ends. AreEnds P ends.items) (λ ends. AreEnds Q ends.items)
      (λ ends. ends_like P Q same ends.items) are

  -- the positions of a mask that is known
  pub for_mask : (alphabet : Letters) (given shown : Mask) → given ≡ shown →
      Answers (Accepts alphabet tokens tables shown i) →
      Answers (Accepts alphabet tokens tables given i)
  for_mask alphabet given shown is answers =
      subst (λ (m : Mask). Answers (Accepts alphabet tokens tables m i)) (sym is) answers

  there_at : (IsSo : Token → Type 0) (o : Option Token) → IsSomeAnd o IsSo →
      (token : Token) × (o ≡ Some token) × IsSo token
  there_at IsSo None so = absurd so
  there_at IsSo (Some token) so = (token, refl, so)

  one_is : (IsSo : Token → Type 0) (k : ℕ) →
      (IsThere tokens i IsSo × (k ≡ i + 1)) ↔ IsOne tokens i IsSo k
  one_is IsSo k = (
    λ is. let token = there_at IsSo (slice_get tokens i) is.0 in
        (token.0, token.1, token.2, is.1),
    λ one. (subst (λ (o : Option Token). IsSomeAnd o IsSo) (sym one.1) one.2, one.3),
  )

  -- one token
  pub token_ends : (IsSo : Token → Type 0) (b : Bool) → (IsTrue b ↔ IsThere tokens i IsSo) →
      Answers (λ k. IsTrue b × (k ≡ i + 1)) → Answers (IsOne tokens i IsSo)
  token_ends IsSo b is =
      answers_like (λ k. IsTrue b × (k ≡ i + 1)) (IsOne tokens i IsSo)
      (λ k. (
        λ so. (one_is IsSo k).0 (is.0 so.0, so.1),
        λ one. let so = (one_is IsSo k).1 one in (is.1 so.0, so.1),
      ))

  module _ (simple : List Entry) (at : slice_get tables.simple i ≡ Some simple)
      (IsSo : Entry → Type 0) where
    pub simple_is : HasSo IsSo simple ↔ HasSimple tokens i tables IsSo
    simple_is = (
      λ has. (simple, at, has.0, has.1, has.2),
      λ has. (
        has.2,
        subst (λ (l : List Entry). Contains l has.2) (same_Some has.0 simple (sym has.1 ∙ at)) has.3,
        has.4,
      ),
    )

    -- a token with an entry
    pub simple_ends : (b : Bool) → (IsTrue b ↔ HasSo IsSo simple) →
        Answers (λ k. IsTrue b × (k ≡ i + 1)) →
        Answers (λ k. HasSimple tokens i tables IsSo × (k ≡ i + 1))
    simple_ends b is =
        answers_like (λ k. IsTrue b × (k ≡ i + 1))
        (λ k. HasSimple tokens i tables IsSo × (k ≡ i + 1))
        (λ k. (
          λ so. (simple_is.0 (is.0 so.0), so.1),
          λ so. (is.1 (simple_is.1 so.0), so.1),
        ))

    -- a word without one
    pub without_ends : (b : Bool) →
        (IsTrue b ↔ (IsThere tokens i (λ token. token.kind ≡ Word) × (HasSo IsSo simple → ⊥))) →
        Answers (λ k. IsTrue b × (k ≡ i + 1)) →
        Answers (λ k. IsOne tokens i (λ token. token.kind ≡ Word) k
        × (HasSimple tokens i tables IsSo → ⊥))
    without_ends b is =
        answers_like (λ k. IsTrue b × (k ≡ i + 1))
        (λ k. IsOne tokens i (λ token. token.kind ≡ Word) k
        × (HasSimple tokens i tables IsSo → ⊥))
        (λ k. (
          λ so. (
            (one_is (λ token. token.kind ≡ Word) k).0 ((is.0 so.0).0, so.1),
            λ has. (is.0 so.0).1 (simple_is.1 has),
          ),
          λ so. let one = (one_is (λ token. token.kind ≡ Word) k).1 so.0 in
              (is.1 (one.0, λ has. so.1 (simple_is.0 has)), one.1),
        ))

    module _ (compounds : List (ℕ × Entry)) (there : slice_get tables.compounds i ≡ Some compounds)
      where
        pub compound_is : (k : ℕ) → EndsSo IsSo compounds k ↔ HasCompound tokens i tables IsSo k
        compound_is k = (
          λ has. (compounds, there, has.0, has.1, has.2, has.3, has.4),
          λ has. (
            has.2,
            has.3,
            subst (λ (l : List (ℕ × Entry)). Contains l (has.2, has.3))
                (same_Some has.0 compounds (sym has.1 ∙ there)) has.4,
            has.5,
            has.6,
          ),
        )

        -- spans with an entry
        pub entry_answers :
            Answers (λ k. (HasSo IsSo simple × (k ≡ i + 1)) ⊎ EndsSo IsSo compounds k) →
            Answers (λ k. (HasSimple tokens i tables IsSo × (k ≡ i + 1))
            ⊎ HasCompound tokens i tables IsSo k)
        entry_answers =
            answers_like (λ k. (HasSo IsSo simple × (k ≡ i + 1)) ⊎ EndsSo IsSo compounds k)
            (λ k. (HasSimple tokens i tables IsSo × (k ≡ i + 1)) ⊎ HasCompound tokens i tables IsSo k)
            (λ k. (
              λ either. elim either [
                | inl so ↦ inl (simple_is.0 so.0, so.1)
                | inr so ↦ inr ((compound_is k).0 so)
              ],
              λ either. elim either [
                | inl so ↦ inl (simple_is.1 so.0, so.1)
                | inr so ↦ inr ((compound_is k).1 so)
              ],
            ))

        -- compound ones alone
        pub compound_answers :
            Answers (λ k. (HasSo IsSo [] × (k ≡ i + 1)) ⊎ EndsSo IsSo compounds k) →
            Answers (HasCompound tokens i tables IsSo)
        compound_answers =
            answers_like (λ k. (HasSo IsSo [] × (k ≡ i + 1)) ⊎ EndsSo IsSo compounds k)
            (HasCompound tokens i tables IsSo)
            (λ k. (
              λ either. elim either [
                | inl so ↦ absurd (Contains-none so.0.0 so.0.1)
                | inr so ↦ (compound_is k).0 so
              ],
              λ so. inr ((compound_is k).1 so),
            ))

        -- a word or a tag without one
        pub refuse_answers : (b : Bool) →
            (IsTrue b ↔ ((IsThere tokens i (λ token. token.kind ≡ Word) × (HasSo IsSo simple → ⊥))
            ⊎ (IsThere tokens i (λ token. token.kind ≡ Tag)
            × (HasSo IsSo simple ⊎ EndsSo IsSo compounds (i + 1) → ⊥)))) →
            Answers (λ k. IsTrue b × (k ≡ i + 1)) →
            Answers (λ k. (IsOne tokens i (λ token. token.kind ≡ Word) k
            × (HasSimple tokens i tables IsSo → ⊥))
            ⊎ (IsOne tokens i (λ token. token.kind ≡ Tag) k
            × (HasOwn tokens i tables IsSo → ⊥)))
        refuse_answers b is =
            answers_like (λ k. IsTrue b × (k ≡ i + 1))
            (λ k. (IsOne tokens i (λ token. token.kind ≡ Word) k
            × (HasSimple tokens i tables IsSo → ⊥))
            ⊎ (IsOne tokens i (λ token. token.kind ≡ Tag) k
            × (HasOwn tokens i tables IsSo → ⊥)))
            (λ k. (
              λ so. elim (is.0 so.0) [
                | inl word ↦ inl (
                  (one_is (λ token. token.kind ≡ Word) k).0 (word.0, so.1),
                  λ has. word.1 (simple_is.1 has),
                )
                | inr tag ↦ inr (
                  (one_is (λ token. token.kind ≡ Tag) k).0 (tag.0, so.1),
                  λ has. elim has [
                    | inl own ↦ tag.1 (inl (simple_is.1 own))
                    | inr own ↦ tag.1 (inr ((compound_is (i + 1)).1 own))
                  ],
                )
              ],
              λ either. elim either [
                | inl word ↦ let one = (one_is (λ token. token.kind ≡ Word) k).1 word.0 in
                    (is.1 (inl (one.0, λ has. word.1 (simple_is.0 has))), one.1)
                | inr tag ↦ let one = (one_is (λ token. token.kind ≡ Tag) k).1 tag.0 in (
                  is.1 (inr (
                    one.0,
                    λ has. elim has [
                      | inl own ↦ tag.1 (inl (simple_is.0 own))
                      | inr own ↦ tag.1 (inr ((compound_is (i + 1)).0 own))
                    ],
                  )),
                  one.1,
                )
              ],
            ))
