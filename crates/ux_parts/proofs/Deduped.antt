-- What is left of a list that doesn't fall once neighbours that are the same are one.
use Rattle.std.proofs.Common.{arith, ◌≡◌, ℕ, zero, suc, ◌<◌, ◌≤◌, List, [], ◌∷◌, Bool, true, false, cond, inl, inr, subst}
use Rattle.std.specs.Prelude.{Some, slice_get}
use Rattle.std.specs.List.{dedup, dedup_from}
use Rattle.std.specs.List.Sorted.{IsNonDecreasingBy}
use Rattle.std.proofs.lemmas.Option.{same_Some, slice_get_within}
use Rattle.ux_base.proofs.Lists.{less_or}

module _ {X : Type 0} (same : X → X → Bool) (weight : X → ℕ) where
  -- no weight is below the one before, from this one on
  abbrev Rises : ℕ → List X → Type 0
  Rises low [] = Unit {0}
  Rises low (x ∷ xs) = (low ≤ weight x) × Rises (weight x) xs

  -- it rises from a lower one, too
  rises_low : (low lower : ℕ) (xs : List X) → lower ≤ low → Rises low xs → Rises lower xs
  rises_low low lower [] le h = tt
  rises_low low lower (x ∷ xs) le h = (let first = h.0 in omega (arith, le, first), h.1)

  -- a list that does not fall rises from its first element
  rises_from : (x : X) (xs : List X) → IsNonDecreasingBy weight (x ∷ xs) → Rises (weight x) xs
  rises_from x [] h = tt
  rises_from x (y ∷ ys) h = (
    h 0 1 x (omega arith) (omega arith),
    rises_from y ys (λ i j d le lt. h (suc i) (suc j) d (omega (arith, le)) (omega (arith, lt))),
  )

  -- it still rises with neighbours made one
  rises_deduped : (low : ℕ) (x : X) (xs : List X) → low ≤ weight x → Rises (weight x) xs →
      Rises low (dedup_from same x xs)
  rises_deduped low x [] le h = (le, tt)
  rises_deduped low x (y ∷ ys) le h =
      go (same y x) (rises_deduped low x ys le (rises_low (weight y) (weight x) ys h.0 h.1))
      (rises_deduped (weight x) y ys h.0 h.1)
    where
      go : (t : Bool) → Rises low (dedup_from same x ys) →
          Rises (weight x) (dedup_from same y ys) →
          Rises low (cond t (dedup_from same x ys) (x ∷ dedup_from same y ys))
      go true one other = one
      go false one other = (le, other)

  -- what rises has no element below where it begins
  above : (low : ℕ) (xs : List X) → Rises low xs → (u : ℕ) (p : X) → slice_get xs u ≡ Some p →
      low ≤ weight p
  above low [] h u p at = absurd (let w = slice_get_within [] u p at in omega (arith, w))
  above low (x ∷ xs) h zero p at =
      let first = h.0 in subst (λ (t : X). low ≤ weight t) (same_Some x p at) first
  above low (x ∷ xs) h (suc u) p at =
      let first = h.0 in
      let later = above (weight x) xs h.1 u p at in
      omega (arith, first, later)

  -- no later element is lighter
  no_fall : (low : ℕ) (xs : List X) → Rises low xs → (u v : ℕ) (p q : X) → u ≤ v →
      slice_get xs u ≡ Some p → slice_get xs v ≡ Some q → weight p ≤ weight q
  no_fall low [] h u v p q le at_u at_v =
      absurd (let w = slice_get_within [] u p at_u in omega (arith, w))
  no_fall low (x ∷ xs) h zero zero p q le at_u at_v =
      subst (λ (t : X). weight p ≤ weight t) (same_Some x q at_v)
      (subst (λ (t : X). weight t ≤ weight x) (same_Some x p at_u) (omega arith))
  no_fall low (x ∷ xs) h zero (suc v) p q le at_u at_v =
      subst (λ (t : X). weight t ≤ weight q) (same_Some x p at_u) (above (weight x) xs h.1 v q at_v)
  no_fall low (x ∷ xs) h (suc u) zero p q le at_u at_v = absurd (omega (arith, le))
  no_fall low (x ∷ xs) h (suc u) (suc v) p q le at_u at_v =
      no_fall (weight x) xs h.1 u v p q (omega (arith, le)) at_u at_v

  -- what is lighter stands before
  pub lighter_first : (xs : List X) → IsNonDecreasingBy weight xs → (u v : ℕ) (p q : X) →
      slice_get (dedup same xs) u ≡ Some p → slice_get (dedup same xs) v ≡ Some q →
      weight p < weight q → u < v
  lighter_first [] h u v p q at_u at_v lt =
      absurd (let w = slice_get_within [] u p at_u in omega (arith, w))
  lighter_first (x ∷ xs) h u v p q at_u at_v lt = elim (less_or u v) [
    | inl less ↦ less
    | inr le ↦
        let no = no_fall 0 (dedup_from same x xs)
        (rises_deduped 0 x xs (omega arith) (rises_from x xs h)) v u q p le at_v at_u in
        absurd (omega (arith, no, lt))
  ]
