use Rattle.std.proofs.Common.{◌++◌, ◌∙◌, ℕ, List, ap}
use Rattle.std.specs.List.{flat_map}
use Rattle.ux_net.specs.declared.state.Edge.{Edge}
use Rattle.ux_flatten.specs.Negative.{opened_of_edge, opened_of_state}
use Rattle.ux_flatten.proofs.GrowthLemmas.{flat_all, flat_more}
use Rattle.ux_flatten.proofs.negative.opened_in.Goals as goal

pub loop-state-init : goal.loop-state-init
loop-state-init c =
    ap (λ (l : List ℕ). l ++ flat_map opened_of_state c.args.states.now) c.new-opened.ensures.items

pub loop-state-preserved : goal.loop-state-preserved
loop-state-preserved c =
    let opened = c.loop-state.opened.items in
    flat_more opened_of_state c.args.states.now c.loop-state.state-index c.state-item.result opened
    c.push_opened.new.opened.items (flat_map opened_of_state c.args.states.now)
    c.loop-state-test.true c.state-item.is c.loop-state.invariant
    (c.in_ok-push_opened.ensures
    ∙ ap (λ (l : List Edge). opened ++ flat_map opened_of_edge l) c.as_slice.ensures)

pub returns : goal.returns
returns c =
    flat_all opened_of_state c.args.states.now c.loop-state.state-index c.loop-state.opened.items
    (flat_map opened_of_state c.args.states.now) c.loop-state-test.false c.loop-state.invariant
