use Rattle.std.proofs.Common.{◌≡◌, ◌+◌, length}
use Rattle.ux_fst2_file.proofs.ReadLemmas.{AreGraphsTo}
use Rattle.ux_fst2_file.proofs.reading.read_graphs.Given as goal

abbrev pub invariant-loop-index : goal.invariant-loop-index
invariant-loop-index l = record {
  many : length l.graphs.items ≡ l.index;
  read : AreGraphsTo l.fn.cursor.lines l.cursor.lines (l.fn.cursor.number + 1) l.cursor.number
      l.names.keys l.graphs.items;
}
