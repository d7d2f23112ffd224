use Rattle.std.proofs.Common.{arith, get_or, length, ◌≡◌, subst, sym, List}
use Rattle.ux_boxes.specs.declared.place.Place.{Place}
use Rattle.ux_admission.proofs.GainsLemmas.{gains_next, gains_done}
use Rattle.ux_state_places.specs.Meeting.{IsUnitIn}
use Rattle.ux_state_places.proofs.MeetingLemmas.{room_next, units_next}
use Rattle.ux_state_places.proofs.meeting.push_graphs.Goals as goal

pub push_units-requires : goal.push_units-requires
push_units-requires c =
    let at = c.requires.offsets.offset c.loop-k.k (omega arith) in
    let room = room_next c.args.graphs.now c.loop-k.k (get_or c.args.offsets.now c.loop-k.k 0)
    c.as_slice.result.now c.loop-k-test.true at
    (subst (λ (ps : List Place). ps ≡ get_or c.args.graphs.now c.loop-k.k ps)
    (sym c.as_slice.ensures) c.index-graphs-k.is) in
    let few = c.requires.offsets.few in
    record { room = omega (arith, room, few) }

pub loop-k-preserved : goal.loop-k-preserved
loop-k-preserved c =
    let at = c.requires.offsets.offset c.loop-k.k (omega arith) in
    gains_next c.args.units.now.items c.loop-k.units.items c.push_units.new.units.items c.loop-k.k
    (IsUnitIn c.args.graphs.now) c.loop-k.invariant
    (units_next c.args.graphs.now c.loop-k.k (get_or c.args.offsets.now c.loop-k.k 0)
    c.as_slice.result.now c.loop-k.units.items c.push_units.new.units.items c.loop-k-test.true at
    (subst (λ (ps : List Place). ps ≡ get_or c.args.graphs.now c.loop-k.k ps)
    (sym c.as_slice.ensures) c.index-graphs-k.is) c.in_ok-push_units.ensures)

pub returns : goal.returns
returns c =
    gains_done c.args.units.now.items c.loop-k.units.items c.loop-k.k (length c.args.graphs.now)
    (IsUnitIn c.args.graphs.now) c.loop-k.auto.k-end c.loop-k-test.false c.loop-k.invariant
