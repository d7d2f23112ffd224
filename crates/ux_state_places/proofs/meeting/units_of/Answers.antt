use Rattle.std.proofs.Common.{List, ℕ, length, subst}
use Rattle.ux_admission.specs.Gains.{Gains, SoBelow}
use Rattle.ux_admission.proofs.GainsLemmas.{gains_all}
use Rattle.ux_state_places.specs.Meeting.{IsUnitIn}
use Rattle.ux_state_places.proofs.meeting.units_of.Goals as goal

pub returns : goal.returns
returns c =
    gains_all c.push_graphs.new.units.items (SoBelow (length c.args.graphs.now)
    (IsUnitIn c.args.graphs.now))
    (subst (λ (units : List ℕ). Gains units c.push_graphs.new.units.items
    (SoBelow (length c.args.graphs.now) (IsUnitIn c.args.graphs.now)))
    c.new-units.ensures.items c.in_ok-push_graphs.ensures)
