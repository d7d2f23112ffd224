-- Into which places the contexts of graphs of places are closed. Inner: the crates that make nets
-- alone speak of it.
use Rattle.std.specs.Prelude.{◌≡◌, ℕ, ◌<◌, ◌↔◌, List, [], length, get_or, Contains}
use Rattle.ux_boxes.specs.declared.place.Place.{Place}
use Rattle.ux_boxes.specs.Places.{places_of, place_grammar}
use Rattle.ux_boxes.specs.Numbers.{number_of, all_places}
use Rattle.ux_net.specs.Closers.{ClosesInto}

-- a row for each place of all graphs: the places of its graph into which bodies from there are closed
pub record AreClosers (graphs : List (List Place)) (rows : List (List ℕ)) : Type 0 where
  pub len : length rows ≡ all_places graphs
  pub row : (g a c : ℕ) → a < length (places_of graphs g) →
      Contains (get_or rows (number_of graphs g a) []) c ↔ ClosesInto (place_grammar graphs) g a c
