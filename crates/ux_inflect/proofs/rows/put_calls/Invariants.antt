use Rattle.std.proofs.Common.{◌≡◌, ◌++◌, filter, take}
use Rattle.std.specs.Prelude.{nat_lt}
use Rattle.std.specs.List.{flat_map}
use Rattle.ux_net.specs.declared.state.Edge.{Edge}
use Rattle.ux_inflect.specs.Cyclic.{called_on}
use Rattle.ux_inflect.proofs.rows.put_calls.Given as goal

-- what the edges so far call is there
abbrev pub invariant-loop-edge : goal.invariant-loop-edge
invariant-loop-edge l = l.row.items ≡ l.fn.row.items ++ filter (λ called. nat_lt called l.bound)
    (flat_map (λ (edge : Edge). called_on edge.label) (take l.edge-index l.edges))
