use Rattle.std.proofs.Common.{◌≡◌, map, take}
use Rattle.std.specs.List.{AllZip, flat_map}
use Rattle.ux_fst2.specs.Files.{IsGraphBy, IsPrintedBy, tags_of_graph}
use Rattle.ux_net.specs.Whole.{told_graph}
use Rattle.ux_fst2.specs.Inner.{with_texts}
use Rattle.ux_fst2.proofs.printing.graphs_of.Given as goal

-- the graphs so far, and their tags
abbrev pub invariant-loop-before : goal.invariant-loop-before
invariant-loop-before l = record {
  tags : l.tags.keys ≡ with_texts l.fn.tags.keys
      (flat_map tags_of_graph (take l.before (map told_graph l.net)));
  graphs : AllZip (IsGraphBy (IsPrintedBy l.tags.keys)) l.graphs.items
      (take l.before (map told_graph l.net));
}
