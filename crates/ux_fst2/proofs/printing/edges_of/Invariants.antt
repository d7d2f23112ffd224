use Rattle.std.proofs.Common.{◌≡◌, take}
use Rattle.std.specs.List.{AllZip, flat_map}
use Rattle.ux_fst2.specs.Files.{IsEdgeBy, IsPrintedBy, tags_of_edge}
use Rattle.ux_fst2.specs.Inner.{with_texts}
use Rattle.ux_fst2.proofs.printing.edges_of.Given as goal

-- the edges so far, and their tags
abbrev pub invariant-loop-edge : goal.invariant-loop-edge
invariant-loop-edge l = record {
  tags : l.tags.keys ≡ with_texts l.fn.tags.keys (flat_map tags_of_edge (take l.edge-index l.edges));
  edges : AllZip (IsEdgeBy (IsPrintedBy l.tags.keys)) l.told.items (take l.edge-index l.edges);
}
