use Rattle.std.proofs.Common.{get_or}
use Rattle.ux_admission.specs.Ways.{no_way}
use Rattle.ux_admission.specs.Spots.{IsEntrySpot}
use Rattle.std.proofs.lemmas.List.{get_or_default}
use Rattle.ux_admission.proofs.GainsLemmas.{gains_item, gains_items}
use Rattle.ux_admission.proofs.cycles.push_entry_spots.Goals as goal

pub loop-way-preserved : goal.loop-way-preserved
loop-way-preserved c =
    let way = get_or c.args.ways.now c.loop-way.way-index no_way in
    gains_item c.args.spots.now.items c.loop-way.spots.items c.push_entry_spot.new.spots.items
    c.args.ways.now c.loop-way.way-index way (IsEntrySpot c.args.numbers.now) c.loop-way-test.true
    (get_or_default c.args.ways.now c.loop-way.way-index no_way way c.loop-way-test.true)
    c.loop-way.invariant c.in_ok-push_entry_spot.ensures

pub returns : goal.returns
returns c =
    gains_items c.args.spots.now.items c.loop-way.spots.items c.args.ways.now
    c.loop-way.way-index (IsEntrySpot c.args.numbers.now) c.loop-way-test.false
    c.loop-way.invariant
