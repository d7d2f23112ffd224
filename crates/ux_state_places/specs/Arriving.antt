-- How far the ways into states have come, state after state. Inner: the crate's own functions alone
-- speak of it.
use Rattle.std.specs.Prelude.{◌≡◌, ◌≢◌, ◌↔◌, ◌⊎◌, ℕ, ◌<◌, ◌≤◌, List, [], ◌∷◌, ◌++◌, Some, slice_get, Contains, get_or, length}
use Rattle.ux_net.specs.declared.state.Edge.{Edge}
use Rattle.ux_net.specs.declared.state.State.{State}
use Rattle.ux_state_places.specs.declared.arrival.Arrival.{Arrival}
use Rattle.ux_state_places.specs.declared.arrival.Kind.{Kind}
use Rattle.ux_state_places.specs.declared.arrival.Kind.TheVariants as kind
use Rattle.ux_state_places.specs.Arrivals.{arriving, hub_arrival, IsPlain}

-- the row of a state
abbrev pub kinds_at : List (List Kind) → ℕ → List Kind
kinds_at rows n = get_or rows n []

-- the edge leads to the state, by this kind
abbrev pub IsLedInto : ℕ → Kind → Edge → Type 0
IsLedInto n kind edge = (edge.target ≡ n) × (arriving edge.label ≡ kind)

-- one of the elements is so
abbrev pub IsOfOne : {A : Type 0} → List A → (A → Type 0) → Type 0
IsOfOne {A} xs IsSo = (x : A) × Contains xs x × IsSo x

-- the rows have the kinds of the edges too
abbrev pub AddKinds : List (List Kind) → List (List Kind) → List Edge → Type 0
AddKinds old new edges = (n : ℕ) (kind : Kind) → Contains (kinds_at new n) kind ↔
    (Contains (kinds_at old n) kind ⊎ IsOfOne edges (IsLedInto n kind))

-- the rows have the kinds of the edges into each state
abbrev pub AreKindsInto : List State → List (List Kind) → Type 0
AreKindsInto states rows = (n : ℕ) (kind : Kind) → Contains (kinds_at rows n) kind ↔
    IsOfOne states (λ state. IsOfOne state.edges (IsLedInto n kind))

-- the way of this kind into the state
abbrev pub way_into : ℕ → Kind → Arrival
way_into n kind = record { state = n; kind = kind }

-- all edges into a state that isn't the start are of this kind
pub record IsOnlyKind (n : ℕ) (kinds : List Kind) (kind : Kind) : Type 0 where
  pub later : n ≢ 0
  pub plain : IsPlain kind
  pub among : Contains kinds kind
  pub only : (other : Kind) → Contains kinds other → other ≡ kind

-- the kind of the way into the hub of a state into which edges of these kinds lead
abbrev pub IsHubKind : ℕ → List Kind → Kind → Type 0
IsHubKind n kinds k = (k ≡ kind.Hub) ⊎ IsOnlyKind n kinds k

-- a way into the state is that into its hub, of this kind, or one of the others
abbrev pub IsWayInto : Kind → List Kind → ℕ → Arrival → Type 0
IsWayInto hub kinds n x = (way_into n hub ≡ x) ⊎ IsOfOne kinds (λ kind. way_into n kind ≡ x)

-- the item was among the others, or it was put behind them
abbrev pub IsOneMore : {A : Type 0} → List A → A → List A → Type 0
IsOneMore old x new = ((new ≡ old) × Contains old x)
    ⊎ ((new ≡ old ++ x ∷ []) × (Contains old x → ⊥))

-- each way stands once, in the order of the states, up to this one
pub record AreInOrder (top : ℕ) (arrivals : List Arrival) : Type 0 where
  pub once : (i j : ℕ) (x : Arrival) → slice_get arrivals i ≡ Some x →
      slice_get arrivals j ≡ Some x → i ≡ j
  pub ascend : (i j : ℕ) (x y : Arrival) → slice_get arrivals i ≡ Some x →
      slice_get arrivals j ≡ Some y → x.state < y.state → i < j
  pub upto : (i : ℕ) (x : Arrival) → slice_get arrivals i ≡ Some x → x.state ≤ top

-- the ways have grown at their end, by what is so
pub record AreAdded (top : ℕ) (old new : List Arrival) (IsSo : Arrival → Type 0) : Type 0 where
  pub order : AreInOrder top new
  pub kept : (i : ℕ) (x : Arrival) → slice_get old i ≡ Some x → slice_get new i ≡ Some x
  pub gains : (x : Arrival) → Contains new x ↔ (Contains old x ⊎ IsSo x)

-- the ways into the states below this one, with the kinds of their hubs and their numbers
pub record AreWaysBelow (rows : List (List Kind)) (count : ℕ) (hubs : List Kind)
    (firsts : List ℕ) (arrivals : List Arrival) : Type 0 where
  pub hubs_len : length hubs ≡ count
  pub firsts_len : length firsts ≡ count
  pub hub_kinds : (n : ℕ) → n < count → IsHubKind n (kinds_at rows n) (get_or hubs n kind.Hub)
  pub at : (n : ℕ) → n < count →
      slice_get arrivals (get_or firsts n 0) ≡ Some (hub_arrival hubs n)
  pub begins : ((count ≡ 0) × (arrivals ≡ []))
      ⊎ (slice_get arrivals 0 ≡ Some (hub_arrival hubs 0))
  pub order : AreInOrder count arrivals
  pub gains : (x : Arrival) → Contains arrivals x ↔
      ((n : ℕ) × (n < count) × IsWayInto (get_or hubs n kind.Hub) (kinds_at rows n) n x)
