use Rattle.std.proofs.Common.{◌≡◌, take}
use Rattle.ux_dawg.proofs.dawg.Dawg.of_states.Given as goal

-- the states so far
abbrev pub invariant-loop-state : goal.invariant-loop-state
invariant-loop-state l = l.all ≡ take l.state-index l.states
