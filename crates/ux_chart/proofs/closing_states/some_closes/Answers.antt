use Rattle.ux_chart.proofs.ClosingStateLemmas.{none_closes, none_closes_more}
use Rattle.ux_chart.proofs.closing_states.some_closes.Goals as goal

pub loop-edge-preserved : goal.loop-edge-preserved
loop-edge-preserved c =
    none_closes_more c.args.edges.now c.loop-edge.edge-index c.edge-item.result c.closes.result
    c.loop-edge-test.true c.edge-item.is c.closes.ensures c.if-closes.false c.loop-edge.invariant

pub returns : goal.returns
returns c = λ some. absurd (none_closes c.args.edges.now c.loop-edge.edge-index
    c.loop-edge-test.false c.loop-edge.invariant some)
