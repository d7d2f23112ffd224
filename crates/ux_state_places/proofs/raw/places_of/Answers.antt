use Rattle.ux_state_places.specs.RawPlaces.{IsPlaceAt}
use Rattle.ux_state_places.proofs.RawLemmas.{made_next, place_here}
use Rattle.ux_state_places.proofs.raw.places_of.Goals as goal

pub loop-arrival-preserved : goal.loop-arrival-preserved
loop-arrival-preserved c =
    let states = c.args.states.now in
    let kinds = c.args.ways.now.kinds.items in
    let arrivals = c.args.ways.now.arrivals.keys in
    made_next (IsPlaceAt states kinds arrivals) c.loop-arrival.arrival-index
    c.loop-arrival.places.items c.push.new.self.items c.in_ok-place_of.field-0 c.loop-arrival.invariant
    c.in_ok-push.ensures.items
    (place_here states kinds arrivals c.as_slice-arrival-items.result.now
    c.loop-arrival.arrival-index _ c.in_ok-place_of.field-0 c.as_slice-arrival-items.ensures.keys c.in_ok-place_of.ensures)
