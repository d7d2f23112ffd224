use Rattle.std.proofs.Common.{◌∙◌, ◌<◌, List, ap, arith, get_or, length, subst, sym}
use Rattle.ux_dawg.specs.Building.{bare}
use Rattle.ux_dawg.specs.declared.state.Edge.{Edge}
use Rattle.ux_dawg.proofs.FlatLemmas.{state_stands}
use Rattle.ux_image_lists.specs.Summing.{ending_codes, AreSums, IsSumOf}
use Rattle.ux_image_lists.specs.declared.sizes.Sums.{Sums}
use Rattle.ux_image_lists.proofs.SumLemmas.{sums_more, targets_summed}
use Rattle.ux_image_lists.proofs.sizes.sums_of.Goals as goal

pub with_edges-sum-requires : goal.with_edges-sum-requires
with_edges-sum-requires c =
    let states = c.args.states.now in
    let n = c.loop-number.number in
    let inside : n < length states = omega arith in
    targets_summed states c.requires c.args.lists.now.keys n (get_or states n bare)
    c.edges.result.now c.as_slice.result.now
    (subst (AreSums states c.args.lists.now.keys n) (sym c.as_slice.ensures.value)
    c.loop-number.invariant)
    (state_stands states n inside) c.edges.ensures

pub loop-number-preserved : goal.loop-number-preserved
loop-number-preserved c =
    let states = c.args.states.now in
    let lists = c.args.lists.now.keys in
    let n = c.loop-number.number in
    let inside : n < length states = omega arith in
    let s = get_or states n bare in
    let sum = c.with_edges-sum.result in
    let is = subst (λ (l : List Edge). IsSumOf (ending_codes lists s.code) l c.loop-number.sums.items
    sum) c.edges.ensures
    (subst (λ (l : List Sums). IsSumOf (ending_codes lists s.code) c.edges.result.now l sum)
    c.as_slice.ensures.value
    (subst (λ k. IsSumOf k c.edges.result.now c.as_slice.result.now sum)
    (c.codes_in-own.ensures ∙ ap (ending_codes lists) c.code.ensures) c.with_edges-sum.ensures)) in
    sums_more states c.requires lists n s sum c.loop-number.sums.items c.push.new.self.items
    c.loop-number.invariant (state_stands states n inside) is
    c.in_ok-push.ensures.items
