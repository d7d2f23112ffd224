use Rattle.std.proofs.Common.{◌≡◌, ◌++◌, drop}
use Rattle.std.specs.List.{flat_map}
use Rattle.ux_flatten.specs.Negative.{opened_of_state}
use Rattle.ux_flatten.proofs.negative.opened_in.Given as goal

-- what is opened so far, with what the states that are left open
abbrev pub invariant-loop-state : goal.invariant-loop-state
invariant-loop-state l =
    l.opened.items ++ flat_map opened_of_state (drop l.state-index l.states)
    ≡ flat_map opened_of_state l.states
