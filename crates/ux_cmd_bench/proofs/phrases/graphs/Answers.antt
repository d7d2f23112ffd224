use Rattle.std.proofs.lemmas.Result.{IfOk-weaker}
use Rattle.ux_cmd_bench.proofs.GraphsDrawn.{ap_drawn, ap_graph, np_drawn, np_graph}
use Rattle.ux_cmd_bench.proofs.phrases.graphs.Goals as goal

pub graph-requires-clause-draws : goal.graph-requires-clause-draws
graph-requires-clause-draws c = (np_graph, np_drawn)

pub graph-requires-2-clause-draws : goal.graph-requires-2-clause-draws
graph-requires-2-clause-draws c = (ap_graph, ap_drawn)

pub returns-clause-are : goal.returns-clause-are
returns-clause-are c =
    IfOk-weaker c.named.result _ _ (λ graphs are. record {
      np = c.in_ok-np.np;
      ap = c.in_ok-ap.ap;
      draws_np = c.in_ok-np.ensures.draws;
      draws_ap = c.in_ok-ap.ensures.draws;
      are = are;
    }) c.named.ensures.are
