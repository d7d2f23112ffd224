use Rattle.std.proofs.Common.{List, sym, subst}
use Rattle.ux_boxes.specs.declared.place.Place.{Place}
use Rattle.ux_state_places.specs.Arrivals.{AreRawPlaces}
use Rattle.ux_state_places.proofs.RawLemmas.{raw_made}
use Rattle.ux_state_places.proofs.raw.raw_places.Goals as goal

pub returns : goal.returns
returns c =
    let states = c.args.states.now in
    let kinds = c.args.ways.now.kinds.items in
    let arrivals = c.args.ways.now.arrivals.keys in
    subst (λ (places : List Place). AreRawPlaces states kinds arrivals places)
    (sym c.in_ok-put_second.ensures)
    (raw_made states kinds arrivals c.in_ok-places.places.items c.end_place.result c.requires.are
    c.in_ok-places.ensures c.end_place.ensures.output c.end_place.ensures.lines
    c.end_place.ensures.targets)
