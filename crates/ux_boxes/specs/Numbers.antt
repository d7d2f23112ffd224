-- One number for each place of all graphs: the graphs stand one after another. Inner: the crates
-- that make nets alone speak of it.
use Rattle.std.specs.Prelude.{◌≡◌, ℕ, zero, suc, ◌+◌, ◌<◌, ◌≤◌, List, [], ◌∷◌, length, get_or}
use Rattle.ux_boxes.specs.declared.place.Place.{Place}

-- how many places the graphs before this one have, counted from 1
abbrev pub places_before : List (List Place) → ℕ → ℕ
places_before graphs zero = 0
places_before [] (suc g) = 0
places_before (places ∷ graphs) (suc zero) = 0
places_before (places ∷ graphs) (suc (suc g)) = length places + places_before graphs (suc g)

-- the number of a place of a graph
abbrev pub number_of : List (List Place) → (g n : ℕ) → ℕ
number_of graphs g n = places_before graphs g + n

-- how many places all graphs have
abbrev pub all_places : List (List Place) → ℕ
all_places graphs = places_before graphs (suc (length graphs))

-- the table of what stands before each graph, and before one more
pub record AreOffsets (graphs : List (List Place)) (offsets : List ℕ) : Type 0 where
  pub len : length offsets ≡ length graphs + 1
  pub offset : (k : ℕ) → k ≤ length graphs → get_or offsets k 0 ≡ places_before graphs (suc k)
  pub few : all_places graphs < 18446744073709551616
