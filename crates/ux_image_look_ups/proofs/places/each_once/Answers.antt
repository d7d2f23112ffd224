use Rattle.std.proofs.Common.{List, sym, subst}
use Rattle.std.specs.Prelude.{Contains}
use Rattle.std.proofs.lemmas.List.Filters.{dedup_is}
use Rattle.std.proofs.lemmas.List.Kept.{Contains-dedup, Contains-from_dedup}
use Rattle.std.proofs.lemmas.List.Sorted.{Contains-permutation, IsPermutation-sym}
use Rattle.ux_image_look_ups.proofs.places.each_once.Goals as goal

pub returns : goal.returns
returns g c item =
    let old = c.args.items.now.items in
    let sorted = c.sort_unstable.new.self.items in
    let once = c.dedup.new.self.items in
    let moved = c.sort_unstable.ensures.permutation in
    let is = dedup_is g.T.PartialEq.eq sorted once c.dedup.ensures.filtered in (
      λ h. Contains-permutation sorted old item (IsPermutation-sym old sorted moved)
          (Contains-from_dedup g.T.PartialEq.eq sorted item
          (subst (λ (l : List _). Contains l item) is h)),
      λ h. subst (λ (l : List _). Contains l item) (sym is)
          (Contains-dedup g.met.T.Eq.laws c.requires sorted item
          (Contains-permutation old sorted item moved h)),
    )
