use Rattle.std.proofs.Common.{arith, ap, ◌+◌, ◌∷◌, [], length, length-append}
use Rattle.std.proofs.lemmas.Result.{err_from_is_err_and}
use Rattle.ux_fst2_file.proofs.ReadLemmas.{graphs_more, graphs_whole, graphs_stop}
use Rattle.ux_fst2_file.proofs.reading.read_graphs.Goals as goal

pub returns-in_err-graph-clause-err : goal.returns-in_err-graph-clause-err
returns-in_err-graph-clause-err c =
    let p = err_from_is_err_and c.from_residual.result c.from_residual.ensures.1 in
    rw (p.1, p.2) (graphs_stop c.args.cursor.now.lines c.loop-index.cursor.lines
    (c.args.cursor.now.number + 1) c.loop-index.cursor.number c.loop-index.names.keys
    c.loop-index.graphs.items c.loop-index.invariant.read c.args.count _
    (omega (arith, c.loop-index.invariant.many, c.loop-index-test.true)) c.in_err-graph.ensures.err)

pub loop-index-preserved : goal.loop-index-preserved
loop-index-preserved c = record {
  many = omega (
    arith,
    c.loop-index.invariant.many,
    ap length c.in_ok-push.ensures.items,
    length-append c.loop-index.graphs.items (c.in_ok-graph.graph ∷ []),
  );
  read = graphs_more c.args.cursor.now.lines c.loop-index.cursor c.read_graph.new.cursor
      (c.args.cursor.now.number + 1) c.loop-index.names.keys c.read_graph.new.names.keys
      c.loop-index.graphs.items c.push.new.self.items c.in_ok-graph.graph
      c.loop-index.invariant.read c.in_ok-graph.ensures.ok.0 c.in_ok-graph.ensures.ok.1
      c.in_ok-push.ensures.items;
}

pub returns-clause-ok : goal.returns-clause-ok
returns-clause-ok c = record {
  many = omega (
    arith,
    c.loop-index.invariant.many,
    c.loop-index-test.false,
    c.loop-index.auto.index-end,
  );
  begin = graphs_whole c.args.cursor.now.lines c.loop-index.cursor.lines
      (c.args.cursor.now.number + 1) c.loop-index.cursor.number c.loop-index.names.keys
      c.loop-index.graphs.items c.loop-index.invariant.read;
  counted = omega (arith, c.loop-index.invariant.read.counted);
}
