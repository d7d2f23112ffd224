-- The rows of places tell where the contexts of states are closed.
use Rattle.std.proofs.Common.{arith, ℕ, ◌<◌, List, length, inl, inr}
use Rattle.std.proofs.lemmas.List.{get_or_past}
use Rattle.ux_base.proofs.Lists.{less_or}
use Rattle.ux_net.specs.declared.state_graph.StateGraph.{StateGraph}
use Rattle.ux_net.specs.StateGraphs.{state_grammar, told_states}
use Rattle.ux_boxes.specs.declared.place.Place.{Place}
use Rattle.ux_boxes.specs.Numbers.{places_before}
use Rattle.ux_boxes.specs.Places.{places_of}
use Rattle.ux_admission.specs.Admission.{row_at}
use Rattle.ux_admission.specs.Closers.{AreClosers}
use Rattle.ux_state_places.specs.Standing.{Stand}
use Rattle.ux_state_places.proofs.EntryLemmas.{entry_opened}
use Rattle.ux_state_places.proofs.RunProjects.{closes_back, closes_forth}
use Rattle.ux_flatten.specs.Negative.{StandInside}
use Rattle.ux_flatten.proofs.NegativeLaw.{TellsOver}

module _ (graphs : List StateGraph) (places : List (List Place)) (stands hubs : List (List ℕ))
    (stand : Stand graphs places stands hubs) (g : ℕ) where
  pub stand_inside : 0 < length (told_states graphs g) →
      StandInside (row_at stands g) (told_states graphs g)
  stand_inside some p = elim (less_or p (length (places_of places g))) [
    | inl lt ↦ stand.inside g p lt
    | inr le ↦
        let none = get_or_past (row_at stands g) p 0 (omega (arith, le, stand.standing.row g)) in
        omega (arith, none, some)
  ]

  pub tells_over : (rows : List (List ℕ)) → AreClosers places rows →
      TellsOver (state_grammar graphs) g (row_at stands g) rows (places_before places g)
  tells_over rows closers = record {
    sound = λ p q lt there.
        closes_back graphs places stands hubs stand g p q
        ((closers.row g p q (omega (arith, lt, stand.standing.row g))).0 there);
    whole = λ sign o c opening into.
        let e = entry_opened graphs places stands hubs stand g sign o opening in
        let entry = e.2 in
        let q = closes_forth graphs places stands hubs stand g o c e.0 into entry.met entry.enters in (
          e.0,
          q.0,
          (let inside = entry.inside in omega (arith, inside, stand.standing.row g)),
          (closers.row g e.0 q.0 entry.inside).1 q.1,
          entry.stands_for,
          q.2,
        );
  }
