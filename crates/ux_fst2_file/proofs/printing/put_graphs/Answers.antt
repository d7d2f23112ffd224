use Rattle.std.proofs.Common.{arith, sym, ◌+◌, string_bytes}
use Rattle.std.proofs.lemmas.List.{length-take-le}
use Rattle.ux_fst2_file.proofs.PrintLemmas.{graphs_put}
use Rattle.ux_fst2_file.proofs.printing.put_graphs.Goals as goal

pub loop-graph-preserved : goal.loop-graph-preserved
loop-graph-preserved c = record {
  count = omega (arith, c.loop-graph.invariant.count);
  put = graphs_put (string_bytes c.args.text.now) (string_bytes c.loop-graph.text)
      (string_bytes c.put_graph.new.text) c.args.graphs.now c.loop-graph.graph-index
      (c.loop-graph.number + 1) c.graph-item.result c.graph-item.result c.loop-graph-test.true
      (sym c.graph-item.is)
      (omega (arith, c.loop-graph.invariant.count))
      (length-take-le c.loop-graph.graph-index c.args.graphs.now
      (omega (arith, c.loop-graph-test.true)))
      c.loop-graph.invariant.put c.in_ok-put_graph.ensures;
}
