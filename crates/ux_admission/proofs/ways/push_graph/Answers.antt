use Rattle.std.proofs.Common.{arith, List, ap, length}
use Rattle.ux_boxes.specs.declared.place.Place.{Place}
use Rattle.ux_boxes.specs.Places.{places_of}
use Rattle.ux_admission.specs.Ways.{IsWayFrom}
use Rattle.ux_admission.proofs.GainsLemmas.{gains_next, gains_done}
use Rattle.ux_admission.proofs.WaysExact.{gains_of}
use Rattle.ux_admission.proofs.ways.push_graph.Goals as goal

pub loop-source-preserved : goal.loop-source-preserved
loop-source-preserved c =
    gains_next c.args.ways.now.items c.loop-source.ways.items c.push_place.new.ways.items
    c.loop-source.source (IsWayFrom c.args.graphs.now c.args.graph)
    c.loop-source.invariant c.in_ok-push_place.ensures

pub returns : goal.returns
returns c =
    let same = ap (λ (places : List Place). length places) c.places_of-source-end.ensures in
    gains_of c.args.graphs.now c.args.ways.now.items c.loop-source.ways.items c.args.graph
    (gains_done c.args.ways.now.items c.loop-source.ways.items c.loop-source.source
    (length (places_of c.args.graphs.now c.args.graph))
    (IsWayFrom c.args.graphs.now c.args.graph) (omega arith) (omega arith)
    c.loop-source.invariant)
