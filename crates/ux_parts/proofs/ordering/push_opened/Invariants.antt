use Rattle.std.proofs.Common.{◌≡◌, ◌++◌, take}
use Rattle.std.specs.List.{flat_map}
use Rattle.ux_parts.specs.Order.{entries_by}
use Rattle.ux_parts.proofs.ordering.push_opened.Given as goal

abbrev pub invariant-loop-edge : goal.invariant-loop-edge
invariant-loop-edge l =
    l.entries.items
    ≡ l.fn.entries.items ++ flat_map (entries_by l.net l.graph) (take l.edge-index l.edges)
