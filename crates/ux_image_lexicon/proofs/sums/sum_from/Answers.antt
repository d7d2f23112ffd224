use Rattle.std.proofs.Common.{arith, ◌∙◌, List, ap, get_or}
use Rattle.std.proofs.lemmas.List.{get_or_default}
use Rattle.ux_dawg.specs.Building.{bare}
use Rattle.ux_dawg.specs.declared.state.Edge.{Edge}
use Rattle.ux_dawg.specs.declared.state.State.{State}
use Rattle.ux_image_lexicon.proofs.SummingLemmas.{sum_end, sum_step, targets_below}
use Rattle.ux_image_lexicon.proofs.sums.sum_from.Goals as goal

pub bounds-sums-edge : goal.bounds-sums-edge
bounds-sums-edge c =
    let edges = c.edges-edge-items.result.now in
    let n = c.args.number in
    let i = c.loop-edge.edge-index in
    let edge : Edge = get_or edges i (record { letter = 0; target = 0 }) in
    let same = c.edges-edge-items.ensures
    ∙ ap (λ (l : List State). (get_or l n bare).edges) c.states-2.ensures.value in
    targets_below c.args.coded.now n c.args.sums.now c.requires.below
    c.states.ensures.is.automaton.fit c.requires.within edges same i edge c.loop-edge-test.true
    (get_or_default edges i _ edge c.loop-edge-test.true)

pub loop-edge-preserved : goal.loop-edge-preserved
loop-edge-preserved c =
    let edges = c.edges-edge-items.result.now in
    let n = c.args.number in
    let i = c.loop-edge.edge-index in
    let edge : Edge = get_or edges i (record { letter = 0; target = 0 }) in
    let same = c.edges-edge-items.ensures
    ∙ ap (λ (l : List State). (get_or l n bare).edges) c.states-2.ensures.value in
    let at_place = get_or_default edges i _ edge c.loop-edge-test.true in
    let below = targets_below c.args.coded.now n c.args.sums.now c.requires.below
    c.states.ensures.is.automaton.fit c.requires.within edges same i edge c.loop-edge-test.true
    at_place in
    sum_step c.args.coded.now n c.args.sums.now c.requires.below edges i edge
    c.loop-edge-test.true at_place c.loop-edge.sum _ c.with-sum.result below
    (get_or_default c.args.sums.now edge.target _ _ below) c.loop-edge.invariant
    c.with-sum.ensures.codes c.with-sum.ensures.apart

pub returns : goal.returns
returns c =
    let edges = c.edges-edge-items.result.now in
    let n = c.args.number in
    let same = c.edges-edge-items.ensures
    ∙ ap (λ (l : List State). (get_or l n bare).edges) c.states-2.ensures.value in
    let past = c.loop-edge-test.false in
    sum_end c.args.coded.now c.states.ensures.is.automaton.fit n c.requires.within edges same
    c.loop-edge.edge-index (omega (arith, past)) c.loop-edge.sum c.loop-edge.invariant
