use Rattle.std.proofs.Common.{◌≡◌, ◌+◌, ◌∙◌, ℕ, List, [], get_or, subst, length}
use Rattle.std.proofs.lemmas.List.{get_or_default}
use Rattle.ux_boxes.specs.declared.place.Place.{Place}
use Rattle.ux_admission.specs.Gains.{Gains}
use Rattle.ux_boxes.specs.Places.{IsEndPlace}
use Rattle.ux_admission.proofs.GainsLemmas.{gains_next, gains_done}
use Rattle.ux_admission.proofs.WaysExact.{IsEndOf, gains_ends}
use Rattle.ux_boxes.proofs.NumbersLemmas.{offset_room}
use Rattle.ux_admission.proofs.freeness.push_ends.Goals as goal

pub push_graph_ends-requires : goal.push_graph_ends-requires
push_graph_ends-requires c = record {
  room = offset_room c.args.graphs.now c.args.offsets.now c.requires.offsets c.loop-k.k
      c.as_slice.result.now c.loop-k-test.true
      (c.as_slice.ensures ∙ (c.index-graphs-k.is ∙ get_or_default c.args.graphs.now c.loop-k.k
      c.index-graphs-k.result [] c.loop-k-test.true));
}

pub loop-k-preserved : goal.loop-k-preserved
loop-k-preserved c =
    gains_next c.args.ends.now.items c.loop-k.ends.items c.push_graph_ends.new.ends.items
    c.loop-k.k (IsEndOf c.args.graphs.now c.args.offsets.now) c.loop-k.invariant
    (subst (λ (places : List Place). Gains c.loop-k.ends.items c.push_graph_ends.new.ends.items
    (λ x. (n : ℕ) × IsEndPlace places n × (get_or c.args.offsets.now c.loop-k.k 0 + n ≡ x)))
    (c.as_slice.ensures ∙ (c.index-graphs-k.is ∙ get_or_default c.args.graphs.now c.loop-k.k
    c.index-graphs-k.result [] c.loop-k-test.true)) c.in_ok-push_graph_ends.ensures)

pub returns : goal.returns
returns c =
    gains_ends c.args.graphs.now c.args.offsets.now c.requires.offsets c.args.ends.now.items
    c.loop-k.ends.items
    (gains_done c.args.ends.now.items c.loop-k.ends.items c.loop-k.k (length c.args.graphs.now)
    (IsEndOf c.args.graphs.now c.args.offsets.now)
    c.loop-k.auto.k-end c.loop-k-test.false c.loop-k.invariant)
