use Rattle.std.proofs.Common.{◌≡◌, ◌<◌, ℕ, get_or, length}
use Rattle.ux_net.specs.declared.state.State.{State}
use Rattle.ux_flatten.specs.Flattening.{MOST_EDGES}
use Rattle.ux_flatten.proofs.flattening.has_wide.Given as goal

-- none of the states so far has too many edges
abbrev pub invariant-loop-state : goal.invariant-loop-state
invariant-loop-state l = (k : ℕ) (x : State) → k < l.state-index → get_or l.states k x ≡ x →
    MOST_EDGES < length x.edges → ⊥
