use Rattle.std.proofs.Common.{arith, List, subst, sym}
use Rattle.std.specs.Prelude.{◌↔◌, Contains}
use Rattle.ux_digraph.specs.declared.closing.Rule.{Rule}
use Rattle.ux_net.specs.Nets.{states_of}
use Rattle.ux_marks.specs.Meeting.{IsRuleBelow}
use Rattle.ux_marks.proofs.MeetingLemmas.{rules_all, rules_next, rules_none}
use Rattle.ux_marks.proofs.rules.rules_of.Goals as goal

pub loop-state-init : goal.loop-state-init
loop-state-init c rule =
    let states = states_of c.args.net.now 1 in
    subst (λ (l : List Rule). Contains l rule ↔ IsRuleBelow states 0 rule)
    (sym c.new-rules.ensures.items) (rules_none states rule)

pub loop-state-preserved : goal.loop-state-preserved
loop-state-preserved c =
    rules_next (states_of c.args.net.now 1) c.loop-state.state c.states-count.result
    c.edges.result.now c.loop-state.rules.items c.push_from.new.rules.items
    c.states-count.ensures.count c.edges.ensures c.loop-state.invariant c.in_ok-push_from.ensures

pub returns : goal.returns
returns c =
    rules_all (states_of c.args.net.now 1) c.loop-state.state c.loop-state.rules.items
    (omega (arith, c.states-count.ensures.count, c.loop-state-test.false, c.loop-state.auto))
    c.loop-state.invariant
