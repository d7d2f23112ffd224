-- Places that stand for states. A state has a hub, the place from which its edges lead. Each edge leads
-- to the place for its target and its kind, which is the hub or leads to it by a step that takes
-- nothing. So two closing edges into one state are one place, and into two states two.
-- Public: the crate's public contracts speak of it.
use Rattle.std.specs.Prelude.{◌≡◌, ◌≢◌, ◌↔◌, ◌⊎◌, ℕ, ◌<◌, List, [], ◌∷◌, length, map, get_or, Contains, true}
use Rattle.ux_net.specs.declared.label.Label.{Label}
use Rattle.ux_net.specs.declared.label.Label.TheVariants.{Empty}
use Rattle.ux_net.specs.declared.state_graph.StateGraph.{StateGraph}
use Rattle.ux_net.specs.Nets.{IsNetStep, IsNetEnd}
use Rattle.ux_net.specs.StateGraphs.{told_states}
use Rattle.ux_net.specs.Words.{Sign, Step, opens, mark_of}
use Rattle.ux_boxes.specs.declared.place.Place.{Place}
use Rattle.ux_boxes.specs.Places.{places_of, place_grammar, place_output, label_lines, is_reached, IsPlaceStep, IsEndPlace}
use Rattle.ux_admission.specs.Admissible.{IsMet}
use Rattle.ux_admission.specs.Admission.{row_at}
use Rattle.ux_state_places.specs.Kinds.{kind_of}

-- the number in the row of a graph
abbrev pub entry_at : List (List ℕ) → (g n : ℕ) → ℕ
entry_at rows g n = get_or (row_at rows g) n 0

-- a row for each of so many graphs, as long as this tells
pub record HaveRows (count : ℕ) (size : ℕ → ℕ) (rows : List (List ℕ)) : Type 0 where
  pub len : length rows ≡ count
  pub row : (g : ℕ) → length (row_at rows g) ≡ size g

module _ (graphs : List StateGraph) (places : List (List Place)) (stands hubs : List (List ℕ)) where
  -- the state for which a place stands, and the hub of a state
  abbrev pub state_for : (g place : ℕ) → ℕ
  state_for g place = entry_at stands g place

  abbrev pub hub_of : (g n : ℕ) → ℕ
  hub_of g n = entry_at hubs g n

  -- a step of the places is one of the states, of the same kind, from the hub of the state
  pub record IsSameStep (g : ℕ) (s t : Step) : Type 0 where
    pub of_places : IsPlaceStep (places_of places g) s
    pub of_states : IsNetStep (told_states graphs g) t
    pub from : s.from ≡ hub_of g t.from
    pub to : state_for g s.to ≡ t.to
    pub kind : s.labels ≡ map kind_of t.labels

  -- a step takes nothing, and leads to the hub of the state for which its beginning stands, which is
  -- another place
  pub record IsToHub (g : ℕ) (s : Step) : Type 0 where
    pub of_places : IsPlaceStep (places_of places g) s
    pub apart : s.from ≢ hub_of g (state_for g s.from)
    pub to : s.to ≡ hub_of g (state_for g s.from)
    pub silent : s.labels ≡ Empty ∷ []

  -- The places stand for the states. Where no run from a unit leads to a hub, it keeps the steps
  -- that open contexts, since units are told of each of these.
  pub record Stand : Type 0 where
    pub count : length places ≡ length graphs
    pub standing : HaveRows (length graphs) (λ g. length (places_of places g)) stands
    pub have_hubs : HaveRows (length graphs) (λ g. length (told_states graphs g)) hubs
    -- nothing is put out, and the end has no lines
    pub quiet : (g place : ℕ) → place_output (places_of places g) place ≡ []
    pub bare : (g : ℕ) → label_lines (places_of places g) 1 ≡ []
    -- hubs are places of their states, and that of the start is the start
    pub start : (g : ℕ) → hub_of g 0 ≡ 0
    pub first : (g : ℕ) → state_for g 0 ≡ 0
    pub hub : (g n : ℕ) → n < length (told_states graphs g) →
        (hub_of g n < length (places_of places g)) × (hub_of g n ≢ 1) × (state_for g (hub_of g n) ≡ n)
    pub inside : (g place : ℕ) → place < length (places_of places g) →
        state_for g place < length (told_states graphs g)
    -- each step of the places is one to a hub, or one of the states
    pub steps : (g : ℕ) (s : Step) → IsPlaceStep (places_of places g) s →
        IsToHub g s ⊎ ((t : Step) × IsSameStep g s t)
    -- each step of the states is there, if it opens a context or begins where a run leads
    pub lifts : (g : ℕ) (t : Step) → IsNetStep (told_states graphs g) t →
        ((sign : Sign) × (mark_of t.labels ≡ opens sign))
        ⊎ (is_reached (places_of places g) (hub_of g t.from) ≡ true) →
        (s : Step) × IsSameStep g s t
    -- a place to which a run leads is a hub, or leads to the hub
    pub enters : (g place : ℕ) → place ≢ 1 → is_reached (places_of places g) place ≡ true →
        (place ≡ hub_of g (state_for g place))
        ⊎ ((s : Step) × IsToHub g s × (s.from ≡ place))
    -- ends are final states, and the final states to which a run leads
    pub ends : (g place : ℕ) → IsEndPlace (places_of places g) place →
        (place ≡ hub_of g (state_for g place))
        × IsNetEnd (told_states graphs g) (state_for g place)
    pub finals : (g n : ℕ) → IsNetEnd (told_states graphs g) n →
        is_reached (places_of places g) (hub_of g n) ≡ true →
        IsEndPlace (places_of places g) (hub_of g n)
    -- a state has one place for each kind, and places ascend by their states
    pub apart : (g p q : ℕ) (line : List Label) → Contains (label_lines (places_of places g) p) line →
        Contains (label_lines (places_of places g) q) line → state_for g p ≡ state_for g q → p ≡ q
    pub order : (g p q : ℕ) → p < length (places_of places g) → q < length (places_of places g) →
        state_for g p < state_for g q → p < q
    -- a place is marked as reached where a run from the first place of some unit leads to it
    pub met : (g place : ℕ) → place < length (places_of places g) → place ≢ 1 →
        (is_reached (places_of places g) place ≡ true) ↔ IsMet (place_grammar places) g place
