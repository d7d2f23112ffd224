use Rattle.std.proofs.Common.{◌≡◌, ◌++◌, take, flat_map, string_bytes}
use Rattle.ux_fst2_file.specs.Printed.{edge_text}
use Rattle.ux_fst2_file.proofs.printing.put_edges.Given as goal

abbrev pub invariant-loop-edge : goal.invariant-loop-edge
invariant-loop-edge l =
    string_bytes l.text ≡ string_bytes l.fn.text ++ flat_map edge_text (take l.edge-index l.edges)
