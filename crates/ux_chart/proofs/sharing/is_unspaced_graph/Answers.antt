use Rattle.std.proofs.Common.{◌≤◌, subst}
use Rattle.ux_chart.proofs.SharingLemmas.{no_state, state_more, states_all}
use Rattle.ux_chart.proofs.sharing.is_unspaced_graph.Goals as goal

pub loop-state-init : goal.loop-state-init
loop-state-init c = no_state c.args.net.now c.args.graph

pub loop-state-preserved : goal.loop-state-preserved
loop-state-preserved c = state_more c.args.net.now c.args.graph c.loop-state.state
    c.edges.result.now c.edges.ensures
    (c.are_unspaced.ensures c.if-not-are_unspaced.false) c.loop-state.invariant

pub returns : goal.returns
returns c = λ yes. states_all c.args.net.now c.args.graph c.loop-state.state
    (subst (λ n. n ≤ c.loop-state.state) c.states-state-end.ensures.count c.loop-state-test.false)
    c.loop-state.invariant
