use Rattle.std.proofs.lemmas.List.Filters.{dedup_is}
use Rattle.std.proofs.lemmas.List.Kept.{Contains-dedup, Contains-from_dedup, IsStrictlySortedBy-dedup}
use Rattle.std.proofs.lemmas.List.Sorted.{Contains-permutation, IsPermutation-sym}
use Rattle.ux_tfst_locate.proofs.ranks.in_order.Goals as goal

pub returns : goal.returns
returns g c =
    let is = dedup_is g.T.PartialEq.eq _ _ c.dedup.ensures.filtered in
    let moved = c.sort_unstable.ensures.permutation in
    record {
      in_order = rw is (IsStrictlySortedBy-dedup g.met.T.Ord.total g.met.T.Ord.matches_eq _
          c.sort_unstable.ensures.sorted);
      same = λ same item. (
        λ has. Contains-permutation _ _ item (IsPermutation-sym _ _ moved)
            (Contains-from_dedup _ _ item (rw is at has)),
        λ has. rw is (Contains-dedup g.met.T.Eq.laws same _ item
            (Contains-permutation _ _ item moved has)),
      );
    }
