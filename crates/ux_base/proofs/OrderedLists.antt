-- Lists of which each member stands in a relation to all later ones.
use Rattle.std.proofs.Common.{◌≡◌, ◌↔◌, ◌⊎◌, ℕ, zero, suc, ◌<◌, List, [], ◌∷◌, ◌++◌, Bool, true, false, cond, length, get_or, refl, sym, ◌∙◌, ap, subst, inl, inr, arith}
use Rattle.std.specs.Prelude.{AllPairs, Contains, filter, Some, None, slice_get}
use Rattle.std.proofs.lemmas.Bool.{cases_Bool}
use Rattle.std.proofs.lemmas.List.{get_or_default}
use Rattle.std.proofs.lemmas.Option.{none-some, slice_get-get_or, slice_get_within, get_or_from_slice_get}

module _ {X : Type 0} where
  -- a member has a place
  pub place_of : (xs : List X) (x : X) → Contains xs x → (k : ℕ) × (slice_get xs k ≡ Some x)
  place_of xs x (k, lt, is) = (k, slice_get-get_or xs k x lt ∙ ap Some is)

  pub Contains-at : (xs : List X) (x : X) (k : ℕ) → slice_get xs k ≡ Some x → Contains xs x
  Contains-at xs x k at = (k, slice_get_within xs k x at, get_or_from_slice_get xs k x x at)

  pub slice_get-append_left : (xs ys : List X) (k : ℕ) → k < length xs →
      slice_get (xs ++ ys) k ≡ slice_get xs k
  slice_get-append_left [] ys k lt = absurd (omega (arith, lt))
  slice_get-append_left (x ∷ xs) ys zero lt = refl
  slice_get-append_left (x ∷ xs) ys (suc k) lt =
      slice_get-append_left xs ys k (omega (arith, lt))

  -- a list without a first member is empty
  pub nil_from_first : (xs : List X) → slice_get xs 0 ≡ None → xs ≡ []
  nil_from_first [] is = refl
  nil_from_first (x ∷ xs) is = absurd (none-some x (sym is))

  pub AllPairs-tail : (R : X → X → Type 0) (x : X) (xs : List X) → AllPairs R (x ∷ xs) →
      AllPairs R xs
  AllPairs-tail R x xs pairs i j d lt within =
      pairs (suc i) (suc j) d (omega (arith, lt)) (omega (arith, within))

  pub AllPairs-head : (R : X → X → Type 0) (x y : X) (xs : List X) → AllPairs R (x ∷ xs) →
      Contains xs y → R x y
  AllPairs-head R x y xs pairs (k, lt, is) =
      subst (R x) is (pairs 0 (suc k) y (omega arith) (omega (arith, lt)))

  pub Contains-tail : (x y : X) (xs : List X) → Contains xs y → Contains (x ∷ xs) y
  Contains-tail x y xs (k, lt, is) = (suc k, omega (arith, lt), is)

  pub Contains-cons_cases : (x y : X) (xs : List X) → Contains (x ∷ xs) y → (x ≡ y) ⊎ Contains xs y
  Contains-cons_cases x y xs (zero, lt, is) = inl is
  Contains-cons_cases x y xs (suc k, lt, is) = inr (k, omega (arith, lt), is)

  pub Contains-nil : (y : X) → Contains [] y → ⊥
  Contains-nil y (k, lt, is) = absurd (omega (arith, lt))

  pub filter-true : (p : X → Bool) (x : X) (xs : List X) → p x ≡ true →
      filter p (x ∷ xs) ≡ x ∷ filter p xs
  filter-true p x xs is = ap (λ b. cond b (x ∷ filter p xs) (filter p xs)) is

  pub filter-false : (p : X → Bool) (x : X) (xs : List X) → p x ≡ false →
      filter p (x ∷ xs) ≡ filter p xs
  filter-false p x xs is = ap (λ b. cond b (x ∷ filter p xs) (filter p xs)) is

  -- a member that passes stays
  pub Contains-filter : (p : X → Bool) (xs : List X) (y : X) → Contains xs y → p y ≡ true →
      Contains (filter p xs) y
  Contains-filter p [] y member passes = absurd (Contains-nil y member)
  Contains-filter p (x ∷ xs) y member passes = elim (Contains-cons_cases x y xs member) [
    | inl here ↦ subst (λ (l : List X). Contains l y)
        (sym (filter-true p x xs (ap p here ∙ passes))) (0, omega arith, here)
    | inr later ↦ (
        let rest = Contains-filter p xs y later passes in
        elim (cases_Bool (p x)) [
          | inl is ↦ subst (λ (l : List X). Contains l y) (sym (filter-true p x xs is))
              (Contains-tail x y (filter p xs) rest)
          | inr is ↦ subst (λ (l : List X). Contains l y) (sym (filter-false p x xs is)) rest
        ])
  ]

  -- two members that pass stand as they do among all that pass
  pub pair_kept : (R : X → X → Type 0) (p : X → Bool) (xs : List X) → AllPairs R (filter p xs) →
      (i j : ℕ) (d : X) → i < j → j < length xs → p (get_or xs i d) ≡ true →
      p (get_or xs j d) ≡ true → R (get_or xs i d) (get_or xs j d)
  pair_kept R p [] pairs i j d lt within first second = absurd (omega (arith, within))
  pair_kept R p (x ∷ xs) pairs i zero d lt within first second = absurd (omega (arith, lt))
  pair_kept R p (x ∷ xs) pairs zero (suc j) d lt within first second =
      let y = get_or xs j d in
      let inside : j < length xs = omega (arith, within) in
      let member : Contains xs y = (j, inside, get_or_default xs j y d inside) in
      AllPairs-head R x y (filter p xs) (subst (AllPairs R) (filter-true p x xs first) pairs)
      (Contains-filter p xs y member second)
  pair_kept R p (x ∷ xs) pairs (suc i) (suc j) d lt within first second =
      let rest : AllPairs R (filter p xs) = elim (cases_Bool (p x)) [
        | inl is ↦ AllPairs-tail R x (filter p xs)
            (subst (AllPairs R) (filter-true p x xs is) pairs)
        | inr is ↦ subst (AllPairs R) (filter-false p x xs is) pairs
      ] in
      pair_kept R p xs rest i j d (omega (arith, lt)) (omega (arith, within)) first second

-- two lists with the same members, each in the same strict order, are one list
module _ {X : Type 0} (R : X → X → Type 0) (M : X → Type 0)
    (strict : (x y : X) → M x → M y → R x y → R y x → ⊥) where
  same_head : (x y : X) (xs ys : List X) → M x → M y → AllPairs R (x ∷ xs) → AllPairs R (y ∷ ys) →
      Contains (x ∷ xs) y → Contains (y ∷ ys) x → x ≡ y
  same_head x y xs ys mx my up down member back = elim (Contains-cons_cases x y xs member) [
    | inl same ↦ same
    | inr later ↦ elim (Contains-cons_cases y x ys back) [
      | inl same ↦ sym same
      | inr behind ↦ absurd (strict x y mx my (AllPairs-head R x y xs up later)
          (AllPairs-head R y x ys down behind))
    ]
  ]

  tail_only : (x y : X) (xs ys : List X) → x ≡ y → M x → AllPairs R (x ∷ xs) → (e : X) →
      Contains xs e → Contains (y ∷ ys) e → Contains ys e
  tail_only x y xs ys same mx up e member found = elim (Contains-cons_cases y e ys found) [
    | inl here ↦ (
        let after : R x x = subst (R x) (sym (same ∙ here)) (AllPairs-head R x e xs up member) in
        absurd (strict x x mx mx after after))
    | inr later ↦ later
  ]

  pub same_members : (xs ys : List X) → ((e : X) → Contains xs e ↔ Contains ys e) →
      ((e : X) → Contains xs e → M e) → AllPairs R xs → AllPairs R ys → xs ≡ ys
  same_members [] [] same all up down = refl
  same_members [] (y ∷ ys) same all up down =
      absurd (Contains-nil y ((same y).1 (0, omega arith, refl)))
  same_members (x ∷ xs) [] same all up down =
      absurd (Contains-nil x ((same x).0 (0, omega arith, refl)))
  same_members (x ∷ xs) (y ∷ ys) same all up down =
      let first : Contains (x ∷ xs) x = (0, omega arith, refl) in
      let other : Contains (y ∷ ys) y = (0, omega arith, refl) in
      let mx = all x first in
      let my = all y ((same y).1 other) in
      let head = same_head x y xs ys mx my up down ((same y).1 other) ((same x).0 first) in
      let members : (e : X) → Contains xs e ↔ Contains ys e = λ e. (
        λ member. tail_only x y xs ys head mx up e member
            ((same e).0 (Contains-tail x e xs member)),
        λ member. tail_only y x ys xs (sym head) my down e member
            ((same e).1 (Contains-tail y e ys member)),
      ) in
      let rest = same_members xs ys members (λ e member. all e (Contains-tail x e xs member))
      (AllPairs-tail R x xs up) (AllPairs-tail R y ys down) in
      λ i. head i ∷ rest i
