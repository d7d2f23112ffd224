use Rattle.std.proofs.Common.{arith, refl, ◌+◌, ◌<◌, ◌≤◌, length, get_or, List, subst, sym, ap, ◌∙◌}
use Rattle.std.specs.Prelude.{Some}
use Rattle.std.proofs.lemmas.Option.{slice_get-get_or}
use Rattle.std.proofs.lemmas.List.Elements.{Contains-get_or}
use Rattle.ux_net.specs.Nets.{states_of}
use Rattle.ux_chart.specs.declared.config.Config.{Config}
use Rattle.ux_chart.specs.Search.{Adds, IsReady, states_near}
use Rattle.ux_chart.proofs.ReachingLemmas.{begins, goes_on, ends_whole, box, in_box}
use Rattle.ux_chart.proofs.reaching.reach.Goals as goal

pub loop-next-init : goal.loop-next-init
loop-next-init g c =
    let count = c.requires.filled.count in
    let to : c.args.begun.at ≤ c.args.chart.now.last = omega arith in
    begins (g.B.Basis.input c.args.basis.now) c.args.chart.now.last c.requires.ahead
    c.args.net.now c.args.parts.now c.requires.parts c.args.part.now.graph c.args.part.now.first
    c.args.begun.at c.args.begun.number c.args.part.now c.requires.part refl refl to
    c.clear.new.self c.add_all.new.self c.clear.ensures c.in_ok-add_all.ensures

pub expand-requires-clause-ready : goal.expand-requires-clause-ready
expand-requires-clause-ready g c =
    let none : Config = record { state = 0; at = 0 } in
    let len = c.len.ensures in
    let below : c.loop-next.next < length c.loop-next.seen =
    omega (arith, len, c.loop-next-test.true) in
    subst (λ (xs : List Config). IsReady c.args.net.now c.args.parts.now c.args.chart.now.last
    c.args.begun.at c.args.begun.number c.args.part.now.graph (get_or xs c.loop-next.next none))
    (sym c.as_slice.ensures)
    (c.loop-next.invariant.ready (get_or c.loop-next.seen c.loop-next.next none)
    (Contains-get_or c.loop-next.seen c.loop-next.next none below))

pub loop-next-smaller : goal.loop-next-smaller
loop-next-smaller g c =
    let len = c.len.ensures in
    let near = states_near (states_of c.args.net.now c.args.part.now.graph) c.args.part.now.first in
    let few = c.is_bounded.ensures (box near (c.args.chart.now.last + 1)) (λ x h.
    let r = c.loop-next.invariant.ready x h in
    let to = r.to in
    in_box near (c.args.chart.now.last + 1) x (c.loop-next.invariant.near x h) (omega arith)) in
    let test = c.loop-next-test.true in
    omega (arith, few, len, test)

pub loop-next-preserved : goal.loop-next-preserved
loop-next-preserved g c =
    let none : Config = record { state = 0; at = 0 } in
    let len = c.len.ensures in
    let below : c.loop-next.next < length c.loop-next.seen =
    omega (arith, len, c.loop-next-test.true) in
    goes_on (g.B.Basis.input c.args.basis.now) c.args.chart.now.last c.requires.ahead
    c.args.net.now c.args.parts.now c.requires.parts c.args.part.now.graph c.args.part.now.first
    c.args.begun.at c.args.begun.number c.loop-next.seen c.expand.new.found.items
    c.add_all-in-loop-next.new.self c.loop-next.next
    (get_or c.as_slice.result.now c.loop-next.next none)
    (slice_get-get_or c.loop-next.seen c.loop-next.next none below
    ∙ ap (λ (xs : List Config). Some (get_or xs c.loop-next.next none))
    (sym c.as_slice.ensures))
    c.in_ok-expand.ensures
    (subst (λ (xs : List Config). Adds c.loop-next.seen xs
    c.add_all-in-loop-next.new.self) c.as_slice-in-loop-next.ensures.value
    c.in_ok-add_all-2.ensures) c.loop-next.invariant

pub returns : goal.returns
returns g c =
    let len = c.len.ensures in
    ends_whole (g.B.Basis.input c.args.basis.now) c.args.chart.now.last c.requires.ahead
    c.args.net.now c.args.parts.now c.requires.parts c.args.part.now.graph c.args.part.now.first
    c.args.begun.at c.args.begun.number c.loop-next.seen c.loop-next.next
    (omega (arith, len, c.loop-next-test.false)) c.loop-next.invariant
