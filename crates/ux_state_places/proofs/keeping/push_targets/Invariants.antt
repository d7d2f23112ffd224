use Rattle.ux_admission.specs.Gains.{Gains, SoBelow, SoAt}
use Rattle.ux_state_places.specs.Keeping.{IsKeptTarget}
use Rattle.ux_state_places.proofs.keeping.push_targets.Given as goal

-- the targets so far are kept
abbrev pub invariant-loop-target : goal.invariant-loop-target
invariant-loop-target l = Gains l.fn.kept.items l.kept.items
    (SoBelow l.target-index (SoAt l.targets (IsKeptTarget l.places l.is_met)))
