use Rattle.ux_net.specs.declared.state.Edge.{Edge}
use Rattle.ux_walk.specs.Literals.{IsLiteral}
use Rattle.ux_walk.proofs.EachLemmas.{each_all, each_next}
use Rattle.ux_text_chart.proofs.part_index.are_literals.Goals as goal

pub loop-edge-preserved : goal.loop-edge-preserved
loop-edge-preserved c = each_next (λ (edge : Edge). IsLiteral edge.label) c.args.edges.now
    c.loop-edge.edge-index c.edge-item.result c.loop-edge-test.true c.edge-item.is
    c.loop-edge.invariant (c.is_literal.ensures c.if-not-is_literal.false)

pub returns : goal.returns
returns c = λ yes. each_all (λ (edge : Edge). IsLiteral edge.label) c.args.edges.now
    c.loop-edge.edge-index c.loop-edge-test.false c.loop-edge.invariant
