use Rattle.std.proofs.Common.{◌≡◌, ◌++◌, drop}
use Rattle.std.specs.List.{flat_map}
use Rattle.ux_flatten.specs.Negative.{rules_of_edge}
use Rattle.ux_flatten.proofs.negative.push_state.Given as goal

-- the rules so far, with those of the edges that are left
abbrev pub invariant-loop-edge : goal.invariant-loop-edge
invariant-loop-edge l =
    l.rules.items ++ flat_map (rules_of_edge l.count l.a) (drop l.edge-index l.edges)
    ≡ l.initial.rules.items ++ flat_map (rules_of_edge l.count l.a) l.edges
