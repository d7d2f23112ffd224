use Rattle.std.proofs.Common.{◌≡◌, take}
use Rattle.ux_net.specs.Whole.{whole_states_of}
use Rattle.ux_flatten.proofs.told.told_states.Given as goal

-- the states so far
abbrev pub invariant-loop-state : goal.invariant-loop-state
invariant-loop-state l = l.states.items ≡ take l.state (whole_states_of l.net l.graph)
