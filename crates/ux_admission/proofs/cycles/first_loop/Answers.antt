use Rattle.std.proofs.Common.{List, ℕ, [], subst, sym}
use Rattle.ux_digraph.specs.Components.{AreComponents}
use Rattle.ux_admission.specs.declared.spot.Spot.{Spot}
use Rattle.ux_admission.specs.Cycles.{AreFreeEdges}
use Rattle.ux_admission.specs.Gains.{Gains, SoOfOne}
use Rattle.ux_admission.specs.Spots.{IsLoopSpot}
use Rattle.ux_admission.proofs.CyclesLemmas.{free_inside}
use Rattle.ux_admission.proofs.FirstLemmas.{first_loop_is}
use Rattle.ux_admission.proofs.cycles.first_loop.Goals as goal

pub components-requires : goal.components-requires
components-requires c = record {
  inside = free_inside c.args.graphs.now c.requires.fit c.deref.result.now
      (subst (λ (rows : List (List ℕ)). AreFreeEdges c.args.graphs.now rows)
      (sym c.deref.ensures.value) c.in_ok-rows.ensures);
}

pub returns : goal.returns
returns c =
    first_loop_is c.args.graphs.now c.requires.fit c.args.ways.now c.requires.ways
    c.deref-2.result.now c.deref-3.result.now c.least.result c.least.ensures c.args.marks.now
    c.requires.marks c.deref.result.now c.requires.met
    (subst (λ (rows : List (List ℕ)). AreFreeEdges c.args.graphs.now rows)
    (sym c.deref.ensures.value) c.in_ok-rows.ensures)
    (subst (λ (numbers : List ℕ). AreComponents c.deref.result.now numbers)
    (sym c.deref-2.ensures.value) c.in_ok-numbers.ensures)
    (subst (λ (spots : List Spot). Gains [] spots
    (SoOfOne c.args.ways.now (IsLoopSpot c.args.marks.now c.deref-2.result.now)))
    (sym c.deref-3.ensures.value)
    (subst (λ (spots : List Spot). Gains spots c.push_loop_spots.new.spots.items
    (SoOfOne c.args.ways.now (IsLoopSpot c.args.marks.now c.deref-2.result.now)))
    c.new-spots.ensures.items c.in_ok-push_loop_spots.ensures))
