use Rattle.std.proofs.Common.{◌≡◌, [], ◌∷◌, ◌++◌, take}
use Rattle.std.specs.List.{flat_map}
use Rattle.ux_net.specs.Nets.{states_of}
use Rattle.ux_parts.specs.Order.{entry_of, entries_from}
use Rattle.ux_parts.proofs.ordering.push_graph.Given as goal

abbrev pub invariant-loop-state : goal.invariant-loop-state
invariant-loop-state l =
    l.entries.items ≡ (l.fn.entries.items ++ entry_of l.net l.graph 0 ∷ [])
    ++ flat_map (entries_from l.net l.graph) (take l.state (states_of l.net l.graph))
