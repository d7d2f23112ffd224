use Rattle.ux_chart.proofs.SharingLemmas.{no_edge, edge_more, edges_all}
use Rattle.ux_chart.proofs.sharing.are_unspaced.Goals as goal

pub loop-edge-init : goal.loop-edge-init
loop-edge-init c = no_edge c.args.edges.now

pub loop-edge-preserved : goal.loop-edge-preserved
loop-edge-preserved c = edge_more c.args.edges.now c.loop-edge.edge-index c.edge-item.result
    c.loop-edge-test.true c.edge-item.is (c.is_unspaced.ensures c.if-not-is_unspaced.false)
    c.loop-edge.invariant

pub returns : goal.returns
returns c = λ yes. edges_all c.args.edges.now c.loop-edge.edge-index c.loop-edge-test.false
    c.loop-edge.invariant
