use Rattle.std.proofs.Common.{[], ◌∷◌, ◌++◌}
use Rattle.ux_admission.specs.Gains.{Gains, SoBelow, SoAt}
use Rattle.ux_admission.specs.Uses.{IsJump}
use Rattle.ux_admission.proofs.uses.push_context.Given as goal

abbrev pub invariant-loop-place : goal.invariant-loop-place
invariant-loop-place l =
    Gains (l.fn.links.items ++ record l.step { is_negative = l.is_negative } ∷ []) l.links.items
    (SoBelow l.place-index (SoAt l.closed (IsJump l.base l.step)))
