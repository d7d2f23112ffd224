-- How the places of ways are made, one after another. Inner: the crate's own functions alone speak
-- of it.
use Rattle.std.specs.Prelude.{◌≡◌, ◌↔◌, ◌⊎◌, ℕ, List, [], ◌∷◌, length, Contains, IsTrue, Bool, Some, slice_get}
use Rattle.ux_net.specs.declared.state.Edge.{Edge}
use Rattle.ux_net.specs.declared.state.State.{State}
use Rattle.ux_boxes.specs.declared.place.Place.{Place}
use Rattle.ux_admission.specs.Gains.{SoOfOne}
use Rattle.ux_state_places.specs.declared.arrival.Arrival.{Arrival}
use Rattle.ux_state_places.specs.declared.arrival.Kind.{Kind}
use Rattle.ux_state_places.specs.Arrivals.{label_of, hub_arrival, edge_arrival, arrival_at, IsTargetOf}

-- the list with the item behind the first
abbrev pub with_second : {A : Type 0} → A → List A → List A
with_second item [] = item ∷ []
with_second item (first ∷ rest) = first ∷ item ∷ rest

-- no place of a way is another one's
abbrev pub HavePlacesOnce : List Arrival → Type 0
HavePlacesOnce arrivals = (p q : ℕ) (x : Arrival) → arrival_at arrivals p ≡ Some x →
    arrival_at arrivals q ≡ Some x → p ≡ q

-- the ways along the edges are there
abbrev pub HaveEdges : List Arrival → List Edge → Type 0
HaveEdges arrivals edges = (edge : Edge) → Contains edges edge →
    Contains arrivals (edge_arrival edge)

-- a place is that of the hub of a state
abbrev pub IsHubPlace : List Kind → List Arrival → (n q : ℕ) → Type 0
IsHubPlace kinds arrivals n q = arrival_at arrivals q ≡ Some (hub_arrival kinds n)

-- a place is that of the way along an edge
abbrev pub IsEdgePlace : List Arrival → Edge → ℕ → Type 0
IsEdgePlace arrivals edge q = arrival_at arrivals q ≡ Some (edge_arrival edge)

-- a place is the end, where a state is final
abbrev pub IsFinalPlace : (is_final : Bool) → ℕ → Type 0
IsFinalPlace is_final q = (q ≡ 1) × IsTrue is_final

-- a place to which the hub of a state leads
abbrev pub IsLedTo : List Arrival → State → ℕ → Type 0
IsLedTo arrivals state q =
    IsFinalPlace state.is_final q ⊎ SoOfOne state.edges (IsEdgePlace arrivals) q

-- the place of a way
pub record IsPlaceFor (states : List State) (kinds : List Kind) (arrivals : List Arrival)
    (x : Arrival) (place : Place) : Type 0 where
  pub quiet : place.output ≡ []
  pub lines : place.lines ≡ (label_of x.kind ∷ []) ∷ []
  pub targets : (q : ℕ) → Contains place.targets q ↔ IsTargetOf states kinds arrivals x q

-- so many items, each so made as its number tells
pub record AreMade {A : Type 0} (IsMade : ℕ → A → Type 0) (count : ℕ) (made : List A) : Type 0 where
  pub len : length made ≡ count
  pub each : (k : ℕ) (y : A) → slice_get made k ≡ Some y → IsMade k y

-- the place of the way of this number
abbrev pub IsPlaceAt : List State → List Kind → List Arrival → (k : ℕ) → Place → Type 0
IsPlaceAt states kinds arrivals k place = (x : Arrival) → slice_get arrivals k ≡ Some x →
    IsPlaceFor states kinds arrivals x place

-- the state of the way of this number
abbrev pub IsStateAt : List Arrival → (k n : ℕ) → Type 0
IsStateAt arrivals k n = (x : Arrival) → slice_get arrivals k ≡ Some x → n ≡ x.state
