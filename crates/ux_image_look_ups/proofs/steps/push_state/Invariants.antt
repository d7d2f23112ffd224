use Rattle.std.proofs.Common.{◌↔◌, ◌⊎◌, ℕ, take}
use Rattle.std.specs.Prelude.{Contains}
use Rattle.ux_image_look_ups.proofs.StepLemmas.{GoesBy}
use Rattle.ux_image_look_ups.proofs.steps.push_state.Given as goal

-- the states were added to which the edges so far lead by letters that fit
abbrev pub invariant-loop-edge : goal.invariant-loop-edge
invariant-loop-edge l = (t : ℕ) → Contains l.next t
    ↔ (Contains l.initial.next t ⊎ GoesBy l.taken (take l.edge-index l.edge-items) t)
