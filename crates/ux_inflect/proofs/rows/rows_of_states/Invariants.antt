use Rattle.std.proofs.Common.{◌≡◌, filter, map, take, length}
use Rattle.std.specs.Prelude.{nat_lt}
use Rattle.ux_net.specs.Nets.{states_of}
use Rattle.ux_inflect.specs.Cyclic.{targets_of}
use Rattle.ux_inflect.proofs.rows.rows_of_states.Given as goal

-- the rows of the states so far are there
abbrev pub invariant-loop-state : goal.invariant-loop-state
invariant-loop-state l = l.rows.items ≡
    map (filter (λ end. nat_lt end (length (states_of l.net l.graph))))
    (map targets_of (take l.state (states_of l.net l.graph)))
