use Rattle.std.proofs.Common.{◌≤◌, subst}
use Rattle.ux_chart.proofs.SharingLemmas.{first_graphs, graph_more, graphs_all}
use Rattle.ux_chart.proofs.sharing.Sharing.of.Goals as goal

pub loop-before-init : goal.loop-before-init
loop-before-init c = first_graphs c.args.net.now

pub loop-before-preserved : goal.loop-before-preserved
loop-before-preserved c = graph_more c.args.net.now c.loop-before.before
    (c.is_unspaced_graph.ensures c.if-not-is_unspaced_graph.false) c.loop-before.invariant

pub returns : goal.returns
returns c = graphs_all c.args.net.now c.loop-before.before
    (subst (λ n. n ≤ c.loop-before.before) c.graphs-before-end.ensures.count
    c.loop-before-test.false) c.loop-before.invariant
