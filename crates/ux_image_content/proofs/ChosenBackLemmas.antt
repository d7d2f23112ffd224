-- The lists of different numbers: each is one of the lists, at the place of its number, and they
-- differ.
use Rattle.std.proofs.Common.{arith, ◌≡◌, ◌≢◌, ℕ, zero, suc, ◌<◌, List, [], ◌∷◌, inl, inr, refl, sym, ◌∙◌, ap, subst, length, get_or}
use Rattle.std.specs.Prelude.{AllPairs, Contains, Option, None, Some, slice_get}
use Rattle.std.specs.List.{cons_option}
use Rattle.std.proofs.lemmas.Bool.{cases_lt}
use Rattle.std.proofs.lemmas.List.{get_or_default}
use Rattle.std.proofs.lemmas.Option.{get_or_from_slice_get, none-some, same_Some, slice_get-get_or, slice_get_within}
use Rattle.ux_base.proofs.FirstsLemmas.{Contains-after, Contains-cases, Contains-first, Contains-none}
use Rattle.ux_dela.specs.declared.entry.Entry.{Entry}
use Rattle.ux_dict.specs.Content.{AreDifferent, IsFirstPlace}
use Rattle.ux_base.proofs.OrderedLists.{AllPairs-head, AllPairs-tail}
use Rattle.std.proofs.lemmas.List.Kept.{AllPairs-cons}
use Rattle.ux_image.specs.Images.{lists_of}
use Rattle.ux_image.specs.declared.code.CodeList.{CodeList}

-- each list of these numbers is one of the lists
pub list_from : (lists : List CodeList) (order : List ℕ) (l : CodeList) →
    Contains (lists_of lists order) l → (n : ℕ) × Contains order n × (slice_get lists n ≡ Some l)
list_from lists [] l has = absurd (Contains-none l has)
list_from lists (n ∷ order) l has =
    by (slice_get lists n) refl has (λ there. list_from lists order l there)
  where
    by : (found : Option CodeList) → slice_get lists n ≡ found →
        Contains (cons_option (slice_get lists n) (lists_of lists order)) l →
        (Contains (lists_of lists order) l →
        (m : ℕ) × Contains order m × (slice_get lists m ≡ Some l)) →
        (m : ℕ) × Contains (n ∷ order) m × (slice_get lists m ≡ Some l)
    by None none has later =
        let more = later
        (subst (λ o. Contains (cons_option o (lists_of lists order)) l) none has) in
        (more.0, Contains-after n more.0 order more.1, more.2)
    by (Some k) some has later =
        elim (Contains-cases k l (lists_of lists order)
        (subst (λ o. Contains (cons_option o (lists_of lists order)) l) some has)) [
          | inl here ↦ (n, Contains-first n order, some ∙ ap Some here)
          | inr there ↦
              let more = later there in
              (more.0, Contains-after n more.0 order more.1, more.2)
        ]

module _ (lists : List CodeList) (once : AllPairs (λ x y. x ≢ y) lists) where
  list_place : (a b : ℕ) (l : CodeList) → slice_get lists a ≡ Some l →
      slice_get lists b ≡ Some l → a ≡ b
  list_place a b l here there = elim (cases_lt a b) [
    | inl less ↦ absurd (apart a b less here there)
    | inr more ↦ elim (cases_lt b a) [
      | inl less ↦ absurd (apart b a less there here)
      | inr same ↦ omega (arith, more, same)
    ]
  ]
    where
      apart : (i j : ℕ) → i < j → slice_get lists i ≡ Some l → slice_get lists j ≡ Some l → ⊥
      apart i j less first second =
          once i j l less (slice_get_within lists j l second)
          (get_or_from_slice_get lists i l l first
          ∙ sym (get_or_from_slice_get lists j l l second))

  -- lists of different numbers differ
  pub lists_apart : (order : List ℕ) → AllPairs (λ x y. x ≢ y) order →
      AllPairs (λ x y. x ≢ y) (lists_of lists order)
  lists_apart [] apart = λ i j d less within. absurd (omega (arith, within))
  lists_apart (n ∷ order) apart =
      by (slice_get lists n) refl
      (lists_apart order (AllPairs-tail (λ x y. x ≢ y) n order apart))
    where
      by : (found : Option CodeList) → slice_get lists n ≡ found →
          AllPairs (λ x y. x ≢ y) (lists_of lists order) →
          AllPairs (λ x y. x ≢ y) (cons_option (slice_get lists n) (lists_of lists order))
      by None none rest =
          subst (λ o. AllPairs (λ x y. x ≢ y) (cons_option o (lists_of lists order))) (sym none) rest
      by (Some l) some rest =
          subst (λ o. AllPairs (λ x y. x ≢ y) (cons_option o (lists_of lists order))) (sym some)
          (AllPairs-cons (λ x y. x ≢ y) l (lists_of lists order) (λ k d less same.
          let other = get_or (lists_of lists order) k d in
          let from = list_from lists order other (
            k,
            less,
            get_or_default (lists_of lists order) k
                other d less,
          ) in
          AllPairs-head (λ x y. x ≢ y) n from.0 order apart from.1
          (list_place n from.0 l some (from.2 ∙ ap Some (sym same)))) rest)

-- where each number has a list, there are as many, each at the place of its number
module _ (lists : List CodeList) where
  abbrev Have : List ℕ → Type 0
  Have order = (n : ℕ) → Contains order n → (l : CodeList) × (slice_get lists n ≡ Some l)

  pub lists_many : (order : List ℕ) → Have order → length (lists_of lists order) ≡ length order
  lists_many [] have = refl
  lists_many (n ∷ order) have =
      let here = have n (Contains-first n order) in
      let more = lists_many order (λ m has. have m (Contains-after n m order has)) in
      ap (λ o. length (cons_option o (lists_of lists order))) here.1
      ∙ omega (arith, more)

  pub list_at : (order : List ℕ) → Have order → (k n : ℕ) → slice_get order k ≡ Some n →
      slice_get (lists_of lists order) k ≡ slice_get lists n
  list_at [] have k n at = absurd (none-some n at)
  list_at (m ∷ order) have k n at =
      let here = have m (Contains-first m order) in
      ap (λ o. slice_get (cons_option o (lists_of lists order)) k) here.1
      ∙ by k at here.0 here.1
      (λ j. list_at order (λ x has. have x (Contains-after m x order has)) j n)
    where
      by : (k : ℕ) → slice_get (m ∷ order) k ≡ Some n → (l : CodeList) →
          slice_get lists m ≡ Some l → ((j : ℕ) → slice_get order j ≡ Some n →
          slice_get (lists_of lists order) j ≡ slice_get lists n) →
          slice_get (l ∷ lists_of lists order) k ≡ slice_get lists n
      by zero at l is later = sym (ap (slice_get lists) (sym (same_Some m n at)) ∙ is)
      by (suc k) at l is later = later k at

-- entries that differ are their own first places
pub different_itself : (content : List Entry) → AllPairs (λ x y. x ≢ y) content →
    AreDifferent content content
different_itself content apart = record {
  members = λ e. ((λ h. h), (λ h. h));
  once = apart;
  ordered = λ i j d less within a b first second.
      let here = place i d (omega (arith, less, within)) a first in
      let there = place j d within b second in
      omega (arith, here, there, less);
}
  where
    place : (i : ℕ) (d : Entry) → i < length content → (a : ℕ) →
        IsFirstPlace content (get_or content i d) a → a ≡ i
    place i d inside a first =
        let x = get_or content i d in
        let at = slice_get-get_or content i d inside in
        elim (cases_lt a i) [
          | inl low ↦ absurd (apart a i x low inside
              (get_or_from_slice_get content a x x first.here
              ∙ sym (get_or_from_slice_get content i x x at)))
          | inr more ↦ elim (cases_lt i a) [
            | inl low ↦ absurd (first.first i low at)
            | inr same ↦ omega (arith, more, same)
          ]
        ]
