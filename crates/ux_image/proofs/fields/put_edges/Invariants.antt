use Rattle.std.proofs.Common.{◌≡◌, ◌++◌, ◌<◌, ◌^◌, All, length, take}
use Rattle.std.specs.List.{flat_map}
use Rattle.ux_image.specs.Layout.{number_bytes, edge_bytes, EdgeFits}
use Rattle.ux_image.proofs.fields.put_edges.Given as goal

-- their number, and those so far
abbrev pub invariant-loop-edge : goal.invariant-loop-edge
invariant-loop-edge l = record {
  bytes : l.bytes.items ≡ l.fn.bytes.items
      ++ (number_bytes (length l.edges) ++ flat_map edge_bytes (take l.edge-index l.edges));
  few : length l.edges < 2 ^ 32;
  fits : All EdgeFits (take l.edge-index l.edges);
}
