-- The least spot is the first empty loop, and the first left recursion; and where these are.
use Rattle.std.proofs.Common.{arith, ◌≡◌, ℕ, ◌<◌, ◌≤◌, List, [], length, Bool, subst}
use Rattle.std.specs.Prelude.{All, Option}
use Rattle.ux_digraph.specs.Components.{AreComponents}
use Rattle.ux_admission.specs.declared.admissible.AdmissionError.{AdmissionError}
use Rattle.ux_admission.specs.declared.admissible.AdmissionError.TheVariants.{EmptyLoop, LeftRecursion}
use Rattle.ux_boxes.specs.declared.place.Place.{Place}
use Rattle.ux_admission.specs.declared.way.Way.{Way}
use Rattle.ux_admission.specs.declared.spot.Spot.{Spot}
use Rattle.ux_boxes.specs.Places.{places_of, place_grammar}
use Rattle.ux_admission.specs.Refusals.{IsRefusal}
use Rattle.ux_boxes.specs.Fit.{IsFit}
use Rattle.ux_admission.specs.Admissible.{IsOnEmptyLoop, IsLeftRecursive}
use Rattle.ux_admission.specs.Ways.{AreWays, AreFreeMarks}
use Rattle.ux_admission.specs.Cycles.{AreFreeEdges, AreNumbered, AreLoopsMet}
use Rattle.ux_admission.specs.Gains.{Gains, SoOfOne}
use Rattle.ux_admission.specs.Spots.{IsLoopSpot, IsEntrySpot, IsLeast, FindsFirst}
use Rattle.ux_admission.proofs.GainsLemmas.{gains_all}
use Rattle.ux_admission.proofs.CyclesLemmas.{loop_exactly, recursion_exactly}
use Rattle.ux_admission.proofs.EdgesLemmas.{loop_spots, entry_spots}
use Rattle.ux_boxes.proofs.NumbersLemmas.{graph_inside, graph_so}
use Rattle.ux_boxes.proofs.StepsLemmas.{step_inside}
use Rattle.ux_admission.proofs.UnitsLemmas.{on_inside}
use Rattle.ux_admission.proofs.SpotsLemmas.{least_first}

module _ (graphs : List (List Place)) (fit : All (IsFit (length graphs)) graphs)
    (ways : List Way) (are : AreWays graphs ways) (numbers : List ℕ) (spots : List Spot)
    (best : Option Spot) (least : IsLeast spots best) where
  pub first_loop_is : (marks : List Bool) → AreFreeMarks graphs marks → (edges : List (List ℕ)) →
      AreLoopsMet graphs → AreFreeEdges graphs edges → AreComponents edges numbers →
      Gains [] spots (SoOfOne ways (IsLoopSpot marks numbers)) →
      FindsFirst (IsOnEmptyLoop (place_grammar graphs)) best
  first_loop_is marks marked edges met free components made =
      least_first (IsOnEmptyLoop (place_grammar graphs)) spots best (λ spot.
      let all = gains_all spots (SoOfOne ways (IsLoopSpot marks numbers)) made spot in
      let same = loop_spots graphs fit ways are marks marked numbers spot in
      let exact =
      loop_exactly graphs fit edges free met numbers components spot.graph spot.node in (
        λ h. exact.1 (same.0 (all.0 h)),
        λ l. all.1 (same.1 (exact.0 l)),
      )) least

  pub first_recursion_is : AreNumbered graphs numbers →
      Gains [] spots (SoOfOne ways (IsEntrySpot numbers)) →
      FindsFirst (IsLeftRecursive (place_grammar graphs)) best
  first_recursion_is numbered made =
      least_first (IsLeftRecursive (place_grammar graphs)) spots best (λ spot.
      let all = gains_all spots (SoOfOne ways (IsEntrySpot numbers)) made spot in
      let same = entry_spots graphs fit ways are numbers spot in
      let exact = recursion_exactly graphs fit numbered.edges numbered.all numbers
      numbered.components spot.graph spot.node in (
        λ h. exact.1 (same.0 (all.0 h)),
        λ l. all.1 (same.1 (exact.0 l)),
      )) least

-- The node of a refusal is a place, of a graph that is there, and has 32 bits.
module _ (graphs : List (List Place))
    (few : All (λ (places : List Place). length places ≤ 65535) graphs) where
  pub record IsThere (g node : ℕ) : Type 0 where
    pub from : 1 ≤ g
    pub to : g ≤ length graphs
    pub narrow : node < 4294967296

  place_there : (g node : ℕ) → node < length (places_of graphs g) → IsThere g node
  place_there g node inside =
      let most = graph_so (λ (places : List Place). length places ≤ 65535) graphs few g node
      inside in
      let there = graph_inside graphs g node inside in
      record { from = there.0; to = there.1; narrow = omega (arith, inside, most) }

  pub loop_there : (error : AdmissionError) (g node : ℕ) → error ≡ EmptyLoop g node →
      IsRefusal graphs error → IsThere g node
  loop_there error g node is cause =
      let first = subst (IsRefusal graphs) is cause in
      place_there g node (on_inside graphs g first.here.moves)

  pub recursion_there : (error : AdmissionError) (g node : ℕ) → error ≡ LeftRecursion g node →
      IsRefusal graphs error → IsThere g node
  recursion_there error g node is cause =
      let first = subst (IsRefusal graphs) is cause in
      let enters = first.1.here.enters in
      place_there g node (subst (λ n. n < length (places_of graphs g)) enters.to_node
      (step_inside (places_of graphs g) enters.step enters.of_graph).1)
