-- Short lists are in order.
use Rattle.std.proofs.Common.{arith, ◌≤◌, List, [], ◌∷◌, length}
use Rattle.std.specs.List.Sorted.{IsStrictlySortedBy}
use Rattle.std.specs.declared.cmp.Ordering.{Ordering}

pub one_at_most : {K : Type 0} (c : K → K → Ordering) (items : List K) → length items ≤ 1 →
    IsStrictlySortedBy c items
unfolding IsStrictlySortedBy
one_at_most c [] h = tt
one_at_most c (x ∷ []) h = (tt, tt)
one_at_most c (x ∷ y ∷ items) h = absurd (omega (arith, h))
