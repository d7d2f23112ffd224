use Rattle.std.proofs.Common.{◌≡◌, filter, take}
use Rattle.std.specs.Prelude.{nat_lt}
use Rattle.std.specs.List.{flat_map}
use Rattle.ux_net.specs.Nets.{states_of}
use Rattle.ux_inflect.specs.Cyclic.{calls_of_state}
use Rattle.ux_inflect.proofs.rows.row_of_graph.Given as goal

-- what the states so far call is there
abbrev pub invariant-loop-state : goal.invariant-loop-state
invariant-loop-state l = l.row.items ≡ filter (λ called. nat_lt called l.bound)
    (flat_map calls_of_state (take l.state (states_of l.net l.graph)))
