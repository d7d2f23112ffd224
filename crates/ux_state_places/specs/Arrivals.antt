-- The ways by which steps come into states, and the places that they are. Inner: the crate's own
-- functions alone speak of it.
use Rattle.std.specs.Prelude.{◌≡◌, ◌≢◌, ◌↔◌, ◌⊎◌, ℕ, zero, suc, ◌+◌, ◌<◌, ◌≤◌, List, [], ◌∷◌, Option, Some, None, slice_get, Contains, length, get_or, IsTrue, Bool, true, false}
use Rattle.ux_net.specs.declared.label.Label.{Label}
use Rattle.ux_net.specs.declared.label.Label.TheVariants as label
use Rattle.ux_net.specs.declared.state.Edge.{Edge}
use Rattle.ux_net.specs.declared.state.State.{State}
use Rattle.ux_net.specs.Words.{Sign, ordinary, opens, mark_of}
use Rattle.ux_boxes.specs.declared.place.Place.{Place}
use Rattle.ux_boxes.specs.Places.{places_of, place_grammar, label_lines, place_output, place_targets, is_reached}
use Rattle.ux_net.specs.declared.state_graph.StateGraph.{StateGraph}
use Rattle.ux_net.specs.StateGraphs.{told_states}
use Rattle.ux_admission.specs.Admissible.{IsMet}
use Rattle.ux_admission.specs.Admission.{row_at}
use Rattle.ux_state_places.specs.declared.arrival.Arrival.{Arrival}
use Rattle.ux_state_places.specs.declared.arrival.Kind.{Kind}
use Rattle.ux_state_places.specs.declared.arrival.Kind.TheVariants as kind

-- the label by which a step comes into a place of this kind
abbrev pub label_of : Kind → Label
label_of kind.Hub = label.Empty
label_of kind.Token = label.Space
label_of kind.Positive = label.Positive
label_of kind.Negative = label.Negative
label_of kind.ContextEnd = label.ContextEnd
label_of (kind.Call graph) = label.Call graph

-- the kind of a label
abbrev pub arriving : Label → Kind
arriving label.Empty = kind.Hub
arriving (label.CaseFolded text) = kind.Token
arriving (label.CaseExact text) = kind.Token
arriving (label.Mask mask) = kind.Token
arriving (label.Brace text) = kind.Token
arriving label.Space = kind.Token
arriving label.NoSpace = kind.Hub
arriving (label.Begin name) = kind.Hub
arriving (label.End name) = kind.Hub
arriving label.Positive = kind.Positive
arriving label.Negative = kind.Negative
arriving label.ContextEnd = kind.ContextEnd
arriving label.Cut = kind.Hub
arriving (label.Call graph) = kind.Call graph

-- a kind neither opens nor closes a context
abbrev pub IsPlain : Kind → Type 0
IsPlain k = mark_of (label_of k ∷ []) ≡ ordinary

-- the way into the hub of a state, which has the state's kind, and the way along an edge
abbrev pub hub_arrival : (kinds : List Kind) → ℕ → Arrival
hub_arrival kinds n = record { state = n; kind = get_or kinds n kind.Hub }

abbrev pub edge_arrival : Edge → Arrival
edge_arrival edge = record { state = edge.target; kind = arriving edge.label }

-- The ways into the states of a graph, in the order of their states: that of the start first, each
-- once, one into the hub of each state, and that of each edge. Where a state has another way than
-- that into its hub, the latter takes nothing.
pub record AreArrivals (states : List State) (kinds : List Kind) (arrivals : List Arrival) :
    Type 0 where
  pub count : length kinds ≡ length states
  pub start : slice_get arrivals 0 ≡ Some (hub_arrival kinds 0)
  pub first : get_or kinds 0 kind.Hub ≡ kind.Hub
  pub plain : (n : ℕ) → n < length states → IsPlain (get_or kinds n kind.Hub)
  pub alone : (i : ℕ) (x : Arrival) → slice_get arrivals i ≡ Some x →
      x ≢ hub_arrival kinds x.state → get_or kinds x.state kind.Hub ≡ kind.Hub
  pub once : (i j : ℕ) (x : Arrival) → slice_get arrivals i ≡ Some x →
      slice_get arrivals j ≡ Some x → i ≡ j
  pub inside : (i : ℕ) (x : Arrival) → slice_get arrivals i ≡ Some x → x.state < length states
  pub ascend : (i j : ℕ) (x y : Arrival) → slice_get arrivals i ≡ Some x →
      slice_get arrivals j ≡ Some y → x.state < y.state → i < j
  pub hubs : (n : ℕ) → n < length states → Contains arrivals (hub_arrival kinds n)
  pub edges : (n : ℕ) (state : State) (edge : Edge) → slice_get states n ≡ Some state →
      Contains state.edges edge → Contains arrivals (edge_arrival edge)
  pub made : (i : ℕ) (x : Arrival) → slice_get arrivals i ≡ Some x →
      (x.kind ≡ kind.Hub) ⊎ ((n : ℕ) × (state : State) × (edge : Edge)
      × (slice_get states n ≡ Some state) × Contains state.edges edge × (x ≡ edge_arrival edge))

-- the numbers of the ways into the hubs
pub record AreFirsts (kinds : List Kind) (arrivals : List Arrival) (firsts : List ℕ) : Type 0 where
  pub len : length firsts ≡ length kinds
  pub at : (n : ℕ) → n < length kinds →
      slice_get arrivals (get_or firsts n 0) ≡ Some (hub_arrival kinds n)

-- edges lead to states
abbrev pub HaveInsideTargets : List State → Type 0
HaveInsideTargets states = (n : ℕ) (state : State) (edge : Edge) →
    slice_get states n ≡ Some state → Contains state.edges edge → edge.target < length states

-- the way for which a place stands, which the end has none of
abbrev pub arrival_at : List Arrival → ℕ → Option Arrival
arrival_at arrivals zero = slice_get arrivals 0
arrival_at arrivals (suc zero) = None
arrival_at arrivals (suc (suc n)) = slice_get arrivals (suc n)

-- the place of the way of this number
abbrev pub place_number : ℕ → ℕ
place_number zero = 0
place_number (suc n) = suc (suc n)

-- The targets of a place: of a hub the places of its edges, and the end where its state is final; of
-- another place the hub.
abbrev pub IsHubTarget : List State → List Arrival → (n q : ℕ) → Type 0
IsHubTarget states arrivals n q =
    (state : State) × (slice_get states n ≡ Some state)
    × (((q ≡ 1) × IsTrue state.is_final)
    ⊎ ((edge : Edge) × Contains state.edges edge
    × (arrival_at arrivals q ≡ Some (edge_arrival edge))))

abbrev pub IsTargetOf : List State → List Kind → List Arrival → (x : Arrival) → (q : ℕ) → Type 0
IsTargetOf states kinds arrivals x q =
    ((x ≡ hub_arrival kinds x.state) × IsHubTarget states arrivals x.state q)
    ⊎ ((x ≢ hub_arrival kinds x.state)
    × (arrival_at arrivals q ≡ Some (hub_arrival kinds x.state)))

-- The places of the ways into the states: the end has no line and no
-- target, another place has the line of its kind.
pub record AreRawPlaces (states : List State) (kinds : List Kind) (arrivals : List Arrival)
    (places : List Place) : Type 0 where
  pub len : length places ≡ length arrivals + 1
  pub quiet : (p : ℕ) → place_output places p ≡ []
  pub bare : label_lines places 1 ≡ []
  pub last : place_targets places 1 ≡ []
  pub lines : (p : ℕ) (x : Arrival) → arrival_at arrivals p ≡ Some x →
      label_lines places p ≡ (label_of x.kind ∷ []) ∷ []
  pub targets : (p q : ℕ) (x : Arrival) → arrival_at arrivals p ≡ Some x →
      Contains (place_targets places p) q ↔ IsTargetOf states kinds arrivals x q

-- a place has a line that opens a context
abbrev pub IsOpened : List Place → ℕ → Type 0
IsOpened places q = (line : List Label) × (sign : Sign) × Contains (label_lines places q) line
    × (mark_of line ≡ opens sign)

-- The places with these marks, and without the targets of those that aren't marked, but for places
-- into which contexts open.
pub record AreKept (marks : List Bool) (raw places : List Place) : Type 0 where
  pub len : length places ≡ length raw
  pub reached : (p : ℕ) → p < length raw → is_reached places p ≡ get_or marks p false
  pub outputs : (p : ℕ) → place_output places p ≡ place_output raw p
  pub lines : (p : ℕ) → label_lines places p ≡ label_lines raw p
  pub targets : (p q : ℕ) → Contains (place_targets places p) q ↔
      (Contains (place_targets raw p) q × ((get_or marks p false ≡ true) ⊎ IsOpened raw q))

-- the states for which the places stand, the end for state 0
pub record AreStandingFor (arrivals : List Arrival) (row : List ℕ) : Type 0 where
  pub len : length row ≡ length arrivals + 1
  pub last : get_or row 1 0 ≡ 0
  pub state : (p : ℕ) (x : Arrival) → arrival_at arrivals p ≡ Some x → get_or row p 0 ≡ x.state

-- the hubs of the states
pub record AreHubs (kinds : List Kind) (arrivals : List Arrival) (row : List ℕ) : Type 0 where
  pub len : length row ≡ length kinds
  pub hub : (n : ℕ) → n < length kinds →
      arrival_at arrivals (get_or row n 0) ≡ Some (hub_arrival kinds n)

-- The places of a graph are those of the ways into its states, without what leads on from places to
-- which no run leads.
pub record ArePlacesOf (raws : List (List Place)) (g : ℕ) (states : List State)
    (places : List Place) (stands hubs : List ℕ) : Type 0 where
  pub kinds : List Kind
  pub arrivals : List Arrival
  pub are : AreArrivals states kinds arrivals
  pub raw : AreRawPlaces states kinds arrivals (places_of raws g)
  pub marks : List Bool
  pub marked : (p : ℕ) → p < length (places_of raws g) →
      (get_or marks p false ≡ true) ↔ IsMet (place_grammar raws) g p
  pub kept : AreKept marks (places_of raws g) places
  pub standing : AreStandingFor arrivals stands
  pub have_hubs : AreHubs kinds arrivals hubs

-- the same of all graphs
pub record ArePlaced (graphs : List StateGraph) (places : List (List Place))
    (stands hubs : List (List ℕ)) : Type 0 where
  pub raws : List (List Place)
  pub count : length places ≡ length graphs
  pub raw_count : length raws ≡ length graphs
  pub stands_count : length stands ≡ length graphs
  pub hubs_count : length hubs ≡ length graphs
  pub each : (g : ℕ) → 1 ≤ g → g ≤ length graphs →
      ArePlacesOf raws g (told_states graphs g) (places_of places g) (row_at stands g)
      (row_at hubs g)
