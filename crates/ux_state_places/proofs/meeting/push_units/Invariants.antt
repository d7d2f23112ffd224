use Rattle.ux_admission.specs.Gains.{Gains, SoBelow}
use Rattle.ux_state_places.specs.Meeting.{IsUnitNumber}
use Rattle.ux_state_places.proofs.meeting.push_units.Given as goal

-- the places so far
abbrev pub invariant-loop-n : goal.invariant-loop-n
invariant-loop-n l =
    Gains l.fn.units.items l.units.items (SoBelow l.n (IsUnitNumber l.places l.before))
