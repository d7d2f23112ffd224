use Rattle.std.proofs.Common.{◌++◌, ◌∙◌, List, ap, sym}
use Rattle.std.specs.List.{flat_map}
use Rattle.ux_net.specs.declared.state.Edge.{Edge}
use Rattle.ux_net.specs.declared.state.State.{State}
use Rattle.ux_flatten.specs.Negative.{rules_from, rules_of_edge}
use Rattle.ux_flatten.proofs.GrowthLemmas.{rules_all, rules_more}
use Rattle.ux_flatten.proofs.negative.push_rules.Goals as goal

pub loop-a-preserved : goal.loop-a-preserved
loop-a-preserved c =
    let rules = c.loop-a.rules.items in
    rules_more c.args.count c.loop-a.a c.args.states.now c.index-states-a.result rules
    c.push_state.new.rules.items
    (c.args.rules.now.items ++ rules_from c.args.count 0 c.args.states.now) c.loop-a-test.true
    c.index-states-a.is c.loop-a.invariant
    (c.in_ok-push_state.ensures
    ∙ (ap (λ (l : List Edge). rules ++ flat_map (rules_of_edge c.args.count c.loop-a.a) l)
    c.as_slice.ensures
    ∙ ap (λ (s : State). rules ++ flat_map (rules_of_edge c.args.count c.loop-a.a) s.edges)
    (sym c.index-states-a.is)))

pub returns : goal.returns
returns c =
    rules_all c.args.count c.loop-a.a c.args.states.now c.loop-a.rules.items
    (c.args.rules.now.items ++ rules_from c.args.count 0 c.args.states.now) c.loop-a-test.false
    c.loop-a.invariant
