use Rattle.std.proofs.Common.{arith, ◌∙◌}
use Rattle.std.proofs.lemmas.List.{take_all}
use Rattle.ux_net.specs.Whole.{whole_states_of}
use Rattle.ux_flatten.proofs.ToldLemmas.{copied_more, length_told}
use Rattle.ux_flatten.proofs.told.told_states.Goals as goal

pub loop-state-preserved : goal.loop-state-preserved
loop-state-preserved c =
    copied_more (whole_states_of c.args.net.now c.args.graph) c.loop-state.states.items
    c.push.new.self.items c.loop-state.state c.in_ok-told_state.field-0 c.in_ok-told_state.ensures
    c.loop-state.invariant c.in_ok-push.ensures.items

pub returns : goal.returns
returns c =
    let states = whole_states_of c.args.net.now c.args.graph in
    let many = length_told c.args.net.now c.args.graph in
    c.loop-state.invariant
    ∙ take_all c.loop-state.state states
    (omega (arith, many, c.states-state-end.ensures.count, c.loop-state-test.false))
