use Rattle.ux_admission.specs.Gains.{Gains, SoBelow}
use Rattle.ux_state_places.specs.Meeting.{IsUnitIn}
use Rattle.ux_state_places.proofs.meeting.push_graphs.Given as goal

-- the graphs so far have theirs
abbrev pub invariant-loop-k : goal.invariant-loop-k
invariant-loop-k l = Gains l.fn.units.items l.units.items (SoBelow l.k (IsUnitIn l.graphs))
