-- Items in order are found by halving.
use Rattle.std.proofs.Common.{arith, ◌≡◌, ℕ, ◌+◌, List, inl, inr, ◌∙◌, ap, get_or, false}
use Rattle.std.specs.Prelude.{Contains, Err}
use Rattle.std.specs.Cmp.{IsTotalOrder}
use Rattle.std.specs.Ordering.{is_lt, ordering_reverse}
use Rattle.std.specs.declared.cmp.Ordering.{Ordering}
use Rattle.std.specs.declared.cmp.Ordering.TheVariants.{Less, Equal, Greater}
use Rattle.std.specs.List.Sorted.{IsStrictlySortedBy, IsSortedBy, IsBinarySearchResult}
use Rattle.std.proofs.lemmas.Cmp.{tied_itself}
use Rattle.std.proofs.lemmas.List.Sorted.{searchable_from_sorted}
use Rattle.std.proofs.lemmas.Map.Keys.{Less-from_sorted}
use Rattle.ux_base.proofs.Lists.{less_or}

module _ {T : Type 0} {R : T → T → Ordering} (o : IsTotalOrder R) where
  -- what follows is not less
  not_less : (x y : T) → R x y ≡ Less → is_lt (R y x) ≡ false
  not_less x y less = ap is_lt (o.antisymm y x ∙ ap ordering_reverse less)

  -- a list in order, as a search asks for it
  pub sorted-by_strict : (xs : List T) → IsStrictlySortedBy R xs →
      IsSortedBy (λ x y. is_lt (R x y)) xs
  sorted-by_strict xs strict = λ k d low high.
      not_less (get_or xs k d) (get_or xs (k + 1) d)
      (Less-from_sorted R xs k (k + 1) d strict (omega arith) high)

  -- a search for an item that is there doesn't fail
  pub never_missed : (xs : List T) (x : T) → IsStrictlySortedBy R xs → Contains xs x → (i : ℕ) →
      IsBinarySearchResult (λ y. R y x) xs (Err i) → ⊥
  never_missed xs x strict (k, inside, is) i answer =
      let parts = answer (searchable_from_sorted o (λ (y : T). y) xs x (sorted-by_strict xs strict)) in
      let tied : R (get_or xs k x) x ≡ Equal = ap (λ (y : T). R y x) is ∙ tied_itself o x in
      elim (less_or k i) [
        | inl below ↦
            let less : R (get_or xs k x) x ≡ Less = parts.0 k x (omega arith) below in cc
        | inr past ↦
            let greater : R (get_or xs k x) x ≡ Greater = parts.1 k x past inside in cc
      ]
