use Rattle.std.proofs.Common.{inl, inr, refl, length}
use Rattle.std.proofs.lemmas.Option.{slice_get-get_or}
use Rattle.ux_state_places.specs.Arriving.{way_into}
use Rattle.ux_state_places.proofs.ArrivingLemmas.{added_next, added_done}
use Rattle.ux_state_places.proofs.arrivals.push_arrivals.Goals as goal

pub add_other-requires-clause-there : goal.add_other-requires-clause-there
add_other-requires-clause-there c =
    let hub = way_into c.args.state c.args.hub in
    (c.loop-kind.invariant.gains hub).1 (inl ((c.in_ok-add.ensures.added.gains hub).1 (inr refl)))

pub loop-kind-preserved : goal.loop-kind-preserved
loop-kind-preserved c =
    added_next c.args.state c.add.new.arrivals.keys c.loop-kind.arrivals.keys
    c.add_other.new.arrivals.keys c.args.kinds.now c.loop-kind.kind-index _
    (slice_get-get_or c.args.kinds.now c.loop-kind.kind-index _ c.loop-kind-test.true)
    c.loop-kind.invariant c.in_ok-add_other.ensures

pub returns : goal.returns
returns c = record {
  first = λ apart. c.loop-kind.invariant.kept (length c.args.arrivals.now.keys)
      (way_into c.args.state c.args.hub) (c.in_ok-add.ensures.first apart);
  added = added_done c.args.state c.args.hub c.args.arrivals.now.keys c.add.new.arrivals.keys
      c.loop-kind.arrivals.keys c.args.kinds.now c.loop-kind.kind-index c.loop-kind-test.false
      c.in_ok-add.ensures.added c.loop-kind.invariant;
}
