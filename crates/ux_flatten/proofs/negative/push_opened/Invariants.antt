use Rattle.std.proofs.Common.{◌≡◌, ◌++◌, drop}
use Rattle.std.specs.List.{flat_map}
use Rattle.ux_flatten.specs.Negative.{opened_of_edge}
use Rattle.ux_flatten.proofs.negative.push_opened.Given as goal

-- what is opened so far, with what the edges that are left open
abbrev pub invariant-loop-edge : goal.invariant-loop-edge
invariant-loop-edge l = l.opened.items ++ flat_map opened_of_edge (drop l.edge-index l.edges)
    ≡ l.initial.opened.items ++ flat_map opened_of_edge l.edges
