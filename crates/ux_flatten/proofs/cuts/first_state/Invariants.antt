use Rattle.std.proofs.Common.{ℕ, ◌<◌}
use Rattle.ux_flatten.specs.Cutting.{IsCutAt}
use Rattle.ux_flatten.proofs.cuts.first_state.Given as goal

-- no cut in the states so far
abbrev pub invariant-loop-node : goal.invariant-loop-node
invariant-loop-node l = (m : ℕ) → m < l.node →
    IsCutAt l.states l.negative l.copied.is_negative l.copied.is_copied m → ⊥
