-- Boxes whose lines are split into labels, as a graph. Public: the crate's public contracts speak
-- of it.
use Rattle.std.specs.Prelude.{◌≡◌, ◌≢◌, ℕ, zero, suc, List, [], Option, Some, None, slice_get, Contains, length, Bool, true, false}
use Rattle.std.specs.Option.{option_map_or}
use Rattle.std.specs.List.{AllZip}
use Rattle.ux_alphabet.specs.Letters.{Letters}
use Rattle.ux_grf.specs.declared.graph.GrfBox.{GrfBox}
use Rattle.ux_grf.specs.declared.item.Piece.{Piece}
use Rattle.ux_net.specs.declared.label.Label.{Label}
use Rattle.ux_boxes.specs.declared.place.Place.{Place}
use Rattle.ux_net.specs.Words.{Step, StepGraph, Grammar}
use Rattle.ux_boxes.specs.Boxes.{box_reached_in, lines_at, output_at, targets_at, IsSplitLine}

-- the lines of a place, where there is one
abbrev pub lines_in : Option Place → List (List Label)
lines_in place = option_map_or (λ (p : Place). p.lines) place []

-- the targets of a place, where there is one
abbrev pub targets_in : Option Place → List ℕ
targets_in place = option_map_or (λ (p : Place). p.targets) place []

-- what a place puts out, where there is one
abbrev pub output_in_place : Option Place → List Piece
output_in_place place = option_map_or (λ (p : Place). p.output) place []

-- the lines of the place of this number
abbrev pub label_lines : List Place → ℕ → List (List Label)
label_lines places n = lines_in (slice_get places n)

-- what the place of this number puts out
abbrev pub place_output : List Place → ℕ → List Piece
place_output places n = output_in_place (slice_get places n)

-- the targets of the place of this number
abbrev pub place_targets : List Place → ℕ → List ℕ
place_targets places n = targets_in (slice_get places n)

-- whether a place is reached, where there is one
abbrev pub reached_in : Option Place → Bool
reached_in place = option_map_or (λ (p : Place). p.reached) place false

abbrev pub is_reached : List Place → ℕ → Bool
is_reached places n = reached_in (slice_get places n)

-- the places are those of the boxes, each line split into its labels
pub record ArePlaces (alphabet : Letters) (names : List (List ℕ)) (boxes : List GrfBox)
    (places : List Place) : Type 0 where
  pub len : length places ≡ length boxes
  pub reached : (n : ℕ) → is_reached places n ≡ box_reached_in (slice_get boxes n)
  pub targets : (n : ℕ) → place_targets places n ≡ targets_at boxes n
  pub outputs : (n : ℕ) → place_output places n ≡ output_at boxes n
  pub lines : (n : ℕ) →
      AllZip (IsSplitLine alphabet names) (lines_at boxes n) (label_lines places n)

-- a step into a target, with its output and along one of its lines
pub record IsPlaceStep (places : List Place) (step : Step) : Type 0 where
  pub before_end : step.from ≢ 1
  pub leads : Contains (place_targets places step.from) step.to
  pub line : Contains (label_lines places step.to) step.labels
  pub puts : step.output ≡ place_output places step.to

-- a run may end at the place
abbrev pub IsEndPlace : List Place → ℕ → Type 0
IsEndPlace places place = (place ≢ 1) × Contains (place_targets places place) 1

-- The places as a graph, but for place 1: place 0 is the start, and a run ends where place 1 is a
-- target.
abbrev pub place_graph : List Place → StepGraph
place_graph places = record {
  start = 0;
  IsPlace = λ n. (n ≢ 1) × (is_reached places n ≡ true);
  IsEnd = IsEndPlace places;
  IsStep = IsPlaceStep places;
}

-- the places of a graph, where there is one
abbrev pub places_in : Option (List Place) → List Place
places_in None = []
places_in (Some places) = places

-- the places of the graph of this number, counted from 1
abbrev pub places_of : List (List Place) → ℕ → List Place
places_of graphs zero = []
places_of graphs (suc n) = places_in (slice_get graphs n)

abbrev pub place_grammar : List (List Place) → Grammar
place_grammar graphs = record {
  count = length graphs;
  graph = λ g. place_graph (places_of graphs g);
}
