-- Ranks of places, by which no walk that takes nothing goes on for ever. Inner: the crates that
-- make nets alone speak of it.
use Rattle.std.specs.Prelude.{◌≡◌, ℕ, zero, suc, ◌<◌, ◌≤◌, List, [], ◌∷◌, length, get_or, Bool, true, false}
use Rattle.ux_net.specs.declared.label.Label.TheVariants.{Call}
use Rattle.ux_boxes.specs.declared.place.Place.{Place}
use Rattle.ux_net.specs.Words.{Sign, Step, opens, mark_of}
use Rattle.ux_boxes.specs.Places.{places_of, place_grammar, IsPlaceStep, IsEndPlace}
use Rattle.ux_net.specs.Closers.{ClosesInto}
use Rattle.ux_boxes.specs.Numbers.{all_places}
use Rattle.ux_net.specs.Silent.{are_silent}

-- the row of the graph of this number, counted from 1
abbrev pub row_at : {A : Type 0} → List (List A) → ℕ → List A
row_at rows zero = []
row_at rows (suc g) = get_or rows g []

-- the rank of a place of the graph
abbrev pub place_rank : List (List ℕ) → (g n : ℕ) → ℕ
place_rank ranks g n = get_or (row_at ranks g) n 0

-- the place of the graph is marked as one that leads freely to an end
abbrev pub is_place_free : List (List Bool) → (g n : ℕ) → Bool
is_place_free free g n = get_or (row_at free g) n false

-- one row for each graph, with one entry for each place
pub record AreRows {A : Type 0} (graphs : List (List Place)) (rows : List (List A)) : Type 0 where
  pub len : length rows ≡ length graphs
  pub row : (k : ℕ) → k < length graphs →
      length (get_or rows k []) ≡ length (get_or graphs k [])

-- the rank falls, and a place that leads to a marked one is marked
pub record IsLowerPlace (ranks : List (List ℕ)) (free : List (List Bool)) (g from to : ℕ) :
    Type 0 where
  pub falls : place_rank ranks g to < place_rank ranks g from
  pub marked : is_place_free free g to ≡ true → is_place_free free g from ≡ true

-- Ranks and marks for the places of graphs. A silent step leads lower. A call leads lower to the
-- start of its graph, and where that is marked, to its target too. A step that opens a context leads
-- lower, into it and over it. Places that end a run are marked.
pub record ArePlaceRanks (graphs : List (List Place)) (ranks : List (List ℕ))
    (free : List (List Bool)) : Type 0 where
  pub ranked : AreRows graphs ranks
  pub marked : AreRows graphs free
  pub below : (g n : ℕ) → place_rank ranks g n ≤ all_places graphs
  pub silent : (g : ℕ) (s : Step) → IsPlaceStep (places_of graphs g) s →
      are_silent s.labels ≡ true → IsLowerPlace ranks free g s.from s.to
  pub calls : (g h : ℕ) (s : Step) → IsPlaceStep (places_of graphs g) s →
      s.labels ≡ Call h ∷ [] →
      (place_rank ranks h 0 < place_rank ranks g s.from)
      × (is_place_free free h 0 ≡ true → IsLowerPlace ranks free g s.from s.to)
  pub opens : (g : ℕ) (s : Step) (sign : Sign) → IsPlaceStep (places_of graphs g) s →
      mark_of s.labels ≡ opens sign →
      (place_rank ranks g s.to < place_rank ranks g s.from)
      × ((c : ℕ) → ClosesInto (place_grammar graphs) g s.to c → IsLowerPlace ranks free g s.from c)
  pub ends : (g a : ℕ) → IsEndPlace (places_of graphs g) a → is_place_free free g a ≡ true
