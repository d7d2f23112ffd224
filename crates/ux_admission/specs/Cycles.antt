-- Steps whose two ends lead to each other. Inner: the crates that make nets alone speak of it.
use Rattle.std.specs.Prelude.{◌≡◌, ℕ, ◌⊎◌, ◌↔◌, List, length, get_or, Contains}
use Rattle.ux_digraph.specs.Paths.{row_of}
use Rattle.ux_digraph.specs.Components.{AreComponents}
use Rattle.ux_boxes.specs.declared.place.Place.{Place}
use Rattle.ux_net.specs.Words.{Step}
use Rattle.ux_boxes.specs.Places.{places_of, place_grammar, IsPlaceStep}
use Rattle.ux_net.specs.Closers.{ClosesInto}
use Rattle.ux_admission.specs.Admissible.{IsOnMove, MovesFreely, LeadsFreely, IsMet, EntersAt}
use Rattle.ux_boxes.specs.Numbers.{number_of, all_places}
use Rattle.ux_admission.specs.Ways.{IsFreeEdge, IsEntryEdge}

-- the edges are the steps that may take nothing, and the contexts
pub record AreFreeEdges (graphs : List (List Place)) (edges : List (List ℕ)) : Type 0 where
  pub len : length edges ≡ all_places graphs
  pub edge : (u v : ℕ) → Contains (row_of edges u) v ↔ IsFreeEdge graphs u v

-- the edges are these, and the steps that enter a unit
pub record AreAllEdges (graphs : List (List Place)) (edges : List (List ℕ)) : Type 0 where
  pub len : length edges ≡ all_places graphs
  pub edge : (u v : ℕ) →
      Contains (row_of edges u) v ↔ (IsFreeEdge graphs u v ⊎ IsEntryEdge graphs u v)

-- the node is on a step that may take nothing, or a context, which has one number at both ends
pub record IsLoopStep (graphs : List (List Place)) (numbers : List ℕ) (g node : ℕ) : Type 0 where
  pub source : ℕ
  pub target : ℕ
  pub moves : IsOnMove (place_grammar graphs) g node source target
  pub same : get_or numbers (number_of graphs g source) 0 ≡
      get_or numbers (number_of graphs g target) 0

-- at a step to the node a unit is entered whose first place has the number of the step's beginning
pub record IsEntryStep (graphs : List (List Place)) (numbers : List ℕ) (g node : ℕ) : Type 0 where
  pub step : Step
  pub of_graph : IsPlaceStep (places_of graphs g) step
  pub to_node : step.to ≡ node
  pub entered : ℕ
  pub first : ℕ
  pub enters : EntersAt (place_grammar graphs) g step entered first
  pub same : get_or numbers (number_of graphs g step.from) 0 ≡
      get_or numbers (number_of graphs entered first) 0

-- the numbers are those of the components of all edges
pub record AreNumbered (graphs : List (List Place)) (numbers : List ℕ) : Type 0 where
  pub edges : List (List ℕ)
  pub all : AreAllEdges graphs edges
  pub components : AreComponents edges numbers

-- no run from the start of a graph closes a context that it didn't open
abbrev pub AreOpened : List (List Place) → Type 0
AreOpened graphs = (g c : ℕ) → ClosesInto (place_grammar graphs) g 0 c → ⊥

-- where what takes nothing leads back to the place at which it began, a run from some unit leads to it
abbrev pub AreLoopsMet : List (List Place) → Type 0
AreLoopsMet graphs = (g a b : ℕ) → MovesFreely (place_grammar graphs) g a b →
    LeadsFreely (place_grammar graphs) g b a → IsMet (place_grammar graphs) g a
