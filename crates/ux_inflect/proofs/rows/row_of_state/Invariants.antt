use Rattle.std.proofs.Common.{◌≡◌, map, filter, take}
use Rattle.std.specs.Prelude.{nat_lt}
use Rattle.ux_net.specs.declared.state.Edge.{Edge}
use Rattle.ux_inflect.proofs.rows.row_of_state.Given as goal

-- the ends so far are there
abbrev pub invariant-loop-edge : goal.invariant-loop-edge
invariant-loop-edge l = l.row.items ≡ filter (λ target. nat_lt target l.count)
    (map (λ (edge : Edge). edge.target) (take l.edge-index l.edges))
