use Rattle.std.proofs.Common.{length}
use Rattle.ux_admission.proofs.GainsLemmas.{gains_next, gains_done}
use Rattle.ux_state_places.specs.Meeting.{IsUnitNumber}
use Rattle.ux_state_places.proofs.meeting.push_units.Goals as goal

pub loop-n-preserved : goal.loop-n-preserved
loop-n-preserved c =
    gains_next c.args.units.now.items c.loop-n.units.items c.push_unit.new.units.items c.loop-n.n
    (IsUnitNumber c.args.places.now c.args.before) c.loop-n.invariant c.in_ok-push_unit.ensures

pub returns : goal.returns
returns c =
    gains_done c.args.units.now.items c.loop-n.units.items c.loop-n.n (length c.args.places.now)
    (IsUnitNumber c.args.places.now c.args.before) c.loop-n.auto.n-end c.loop-n-test.false
    c.loop-n.invariant
