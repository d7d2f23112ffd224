use Rattle.std.proofs.Common.{List, sym, subst}
use Rattle.std.specs.Prelude.{Contains}
use Rattle.std.specs.List.Sorted.{IsStrictlySortedBy}
use Rattle.std.proofs.lemmas.List.Filters.{dedup_is}
use Rattle.std.proofs.lemmas.List.Kept.{Contains-dedup, Contains-from_dedup, IsStrictlySortedBy-dedup}
use Rattle.std.proofs.lemmas.List.Sorted.{Contains-permutation, IsPermutation-sym}
use Rattle.ux_morpho.proofs.sorting.sort_items.Goals as goal

pub returns-clause-sorted : goal.returns-clause-sorted
returns-clause-sorted g c =
    let sorted = c.sort_unstable.new.self.items in
    let once = c.dedup.new.self.items in
    subst (IsStrictlySortedBy g.T.Ord.cmp)
    (sym (dedup_is g.T.PartialEq.eq sorted once c.dedup.ensures.filtered))
    (IsStrictlySortedBy-dedup g.met.T.Ord.total g.met.T.Ord.matches_eq sorted
    c.sort_unstable.ensures.sorted)

pub returns-clause-same : goal.returns-clause-same
returns-clause-same g c item =
    let old = c.args.items.now.items in
    let sorted = c.sort_unstable.new.self.items in
    let once = c.dedup.new.self.items in
    let moved = c.sort_unstable.ensures.permutation in
    let is = dedup_is g.T.PartialEq.eq sorted once c.dedup.ensures.filtered in (
      λ h. Contains-permutation sorted old item (IsPermutation-sym old sorted moved)
          (Contains-from_dedup g.T.PartialEq.eq sorted item
          (subst (λ (l : List _). Contains l item) is h)),
      λ h. subst (λ (l : List _). Contains l item) (sym is)
          (Contains-dedup g.met.T.Eq.laws c.requires sorted item
          (Contains-permutation old sorted item moved h)),
    )
