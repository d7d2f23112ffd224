use Rattle.std.proofs.Common.{◌≡◌, ◌<◌, ℕ, Some, get_or}
use Rattle.ux_net.specs.declared.state.Edge.{Edge}
use Rattle.ux_flatten.specs.Copies.{called}
use Rattle.ux_flatten.proofs.cuts.has_call.Given as goal

-- none of the edges so far calls
abbrev pub invariant-loop-edge : goal.invariant-loop-edge
invariant-loop-edge l = (k : ℕ) (x : Edge) (h : ℕ) → k < l.edge-index → get_or l.edges k x ≡ x →
    called x.label ≡ Some h → ⊥
