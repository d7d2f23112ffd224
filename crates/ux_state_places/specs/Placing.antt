-- How far the rows of the graphs have come, while their places are made. Inner: the crate's own
-- functions alone speak of it.
use Rattle.std.specs.Prelude.{◌≡◌, ℕ, ◌≤◌, List, Bool, length, take, drop}
use Rattle.ux_net.specs.declared.state.State.{State}
use Rattle.ux_net.specs.declared.state_graph.StateGraph.{StateGraph}
use Rattle.ux_net.specs.StateGraphs.{told_states}
use Rattle.ux_boxes.specs.declared.place.Place.{Place}
use Rattle.ux_boxes.specs.Numbers.{places_before}
use Rattle.ux_boxes.specs.Places.{places_of}
use Rattle.ux_admission.specs.Admission.{row_at}
use Rattle.ux_state_places.specs.declared.arrival.Arrival.{Arrival}
use Rattle.ux_state_places.specs.declared.arrival.Kind.{Kind}
use Rattle.ux_state_places.specs.Arrivals.{AreArrivals, AreRawPlaces, AreKept, AreStandingFor, AreHubs}

-- The rows of a graph before anything is dropped: the places of the ways into its states, the states
-- for which they stand, and the hubs.
pub record AreRawRows (states : List State) (places : List Place) (stands hubs : List ℕ) :
    Type 0 where
  pub kinds : List Kind
  pub arrivals : List Arrival
  pub are : AreArrivals states kinds arrivals
  pub raw : AreRawPlaces states kinds arrivals places
  pub standing : AreStandingFor arrivals stands
  pub have_hubs : AreHubs kinds arrivals hubs

-- so many graphs have their rows
pub record AreRawTo (graphs : List StateGraph) (n : ℕ) (raws : List (List Place))
    (stands hubs : List (List ℕ)) : Type 0 where
  pub count : length raws ≡ n
  pub stands_count : length stands ≡ n
  pub hubs_count : length hubs ≡ n
  pub each : (g : ℕ) → 1 ≤ g → g ≤ n →
      AreRawRows (told_states graphs g) (places_of raws g) (row_at stands g) (row_at hubs g)

-- the marks of the places of the graph of this number
abbrev pub marks_of : List (List Place) → List Bool → ℕ → List Bool
marks_of raws marks g = take (length (places_of raws g)) (drop (places_before raws g) marks)

-- the places of so many graphs are kept
pub record AreKeptRows (raws : List (List Place)) (marks : List Bool) (n : ℕ)
    (places : List (List Place)) : Type 0 where
  pub count : length places ≡ n
  pub each : (g : ℕ) → 1 ≤ g → g ≤ n →
      AreKept (marks_of raws marks g) (places_of raws g) (places_of places g)
