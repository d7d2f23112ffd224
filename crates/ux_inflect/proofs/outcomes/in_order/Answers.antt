use Rattle.std.proofs.Common.{subst, sym}
use Rattle.std.specs.List.Sorted.{IsStrictlySortedBy}
use Rattle.std.proofs.lemmas.List.Kept.{IsStrictlySortedBy-dedup}
use Rattle.std.proofs.lemmas.List.Sorted.{Contains-permutation, IsPermutation-sym}
use Rattle.std.proofs.lemmas.Map.Keys.{IsDistinct-IsPermutation}
use Rattle.std.specs.Prelude.{Contains}
use Rattle.ux_inflect.proofs.OutcomeLemmas.{dedup-distinct}
use Rattle.ux_inflect.proofs.outcomes.in_order.Goals as goal

pub returns : goal.returns
returns g c =
    let flips = g.met.T.Eq.laws.symm in
    let listed = c.in_ok-sorted.sorted.items in
    let sorted = c.sort_unstable.new.self.items in
    let moved = c.sort_unstable.ensures.permutation in
    let once = IsDistinct-IsPermutation g.T.PartialEq.eq flips listed sorted moved
    c.in_ok-sorted.ensures.once in record {
      in_order = subst (IsStrictlySortedBy g.T.Ord.cmp)
          (dedup-distinct g.T.PartialEq.eq flips sorted once)
          (IsStrictlySortedBy-dedup g.met.T.Ord.total g.met.T.Ord.matches_eq sorted
          c.sort_unstable.ensures.sorted);
      same = λ item. (
        λ has. subst (λ l. Contains l item) c.in_ok-sorted.ensures.items
            (Contains-permutation sorted listed item (IsPermutation-sym listed sorted moved) has),
        λ has. Contains-permutation listed sorted item moved
            (subst (λ l. Contains l item) (sym c.in_ok-sorted.ensures.items) has),
      );
    }
