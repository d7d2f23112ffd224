use Rattle.std.proofs.Common.{◌≡◌, ◌++◌, take, flat_map, string_bytes}
use Rattle.ux_fst2_file.specs.Printed.{ended, graphs_lines}
use Rattle.ux_fst2_file.proofs.printing.put_graphs.Given as goal

abbrev pub invariant-loop-graph : goal.invariant-loop-graph
invariant-loop-graph l = record {
  count : l.number ≡ l.graph-index;
  put : string_bytes l.text
      ≡ string_bytes l.fn.text ++ flat_map ended (graphs_lines 1 (take l.graph-index l.graphs));
}
