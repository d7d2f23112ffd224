use Rattle.ux_net.specs.declared.state.Edge.{Edge}
use Rattle.ux_automaton.specs.Targets.{MayTakeToken}
use Rattle.ux_automaton.proofs.AddingLemmas.{each_all, each_next}
use Rattle.ux_automaton.proofs.takers.may_one_take.Goals as goal

pub loop-edge-preserved : goal.loop-edge-preserved
loop-edge-preserved c = each_next c.args.edges.now c.loop-edge.edge-index
    (λ (edge : Edge). MayTakeToken edge.label → ⊥) c.edge-item.result c.loop-edge-test.true
    c.edge-item.is c.loop-edge.invariant
    (λ may. let yes = c.may_label_take.ensures.1 may in let no = c.if-may_label_take.false in cc)

pub returns : goal.returns
returns c = λ none edge inside may. each_all c.args.edges.now c.loop-edge.edge-index
    (λ (e : Edge). MayTakeToken e.label → ⊥) c.loop-edge-test.false c.loop-edge.invariant edge
    inside may
