-- A search of the states that a part reaches: where it goes on, and what it may ask. Inner: the
-- crate's own functions alone speak of it.
use Rattle.std.specs.Prelude.{◌≡◌, ◌≢◌, ℕ, ◌≤◌, List, [], ◌∷◌, ◌⊎◌, Some, slice_get, Contains, map}
use Rattle.std.specs.List.{flat_map, AllPairs}
use Rattle.ux_net.specs.declared.label.Label.TheVariants.{ContextEnd}
use Rattle.ux_net.specs.declared.state.Edge.{Edge}
use Rattle.ux_net.specs.declared.state.State.{State}
use Rattle.ux_net.specs.declared.net_graph.NetGraph.{NetGraph}
use Rattle.ux_net.specs.Nets.{net_grammar, states_of, IsNetEnd}
use Rattle.ux_meaning.specs.Inputs.{Input}
use Rattle.ux_parts.specs.declared.part.Part.{Part}
use Rattle.ux_parts.specs.declared.parts.Parts.{Parts}
use Rattle.ux_parts.specs.Parts.{ArePartsOf}
use Rattle.ux_parts.specs.Runs.{NextBy, From}
use Rattle.ux_chart.specs.declared.config.Config.{Config}

module _ (input : Input) (net : List NetGraph) (levels g : ℕ) where
  -- an edge of the configuration's state leads on to another configuration
  pub record GoesTo (here next : Config) : Type 0 where
    pub state : State
    pub found : slice_get (states_of net g) here.state ≡ Some state
    pub edge : Edge
    pub inside : Contains state.edges edge
    pub leads : NextBy input (net_grammar net) levels g edge.label edge.target here.at next.state
        next.at

  -- a run from a state and a position leads to the configuration
  abbrev pub IsReached : (first i : ℕ) → Config → Type 0
  IsReached first i here = From input (net_grammar net) levels g first i here.state here.at

-- What is entered from the configuration is done, where the parts below this number are done at `at`,
-- and all are behind it: at `at` its state ranks no higher than the part of this number.
pub record IsReady (net : List NetGraph) (parts : Parts) (last at number g : ℕ) (here : Config) :
    Type 0 where
  pub from : at ≤ here.at
  pub to : here.at ≤ last
  pub part : Part
  pub found : slice_get parts.list number ≡ Some part
  pub before : (are : ArePartsOf net parts) → here.at ≡ at →
      are.rank g here.state ≤ are.rank part.graph part.first

-- the list has grown at its end by what was found and is new
pub record Adds {T : Type 0} (old found new : List T) : Type 0 where
  pub only : (x : T) → Contains new x → Contains old x ⊎ Contains found x
  pub each : (x : T) → Contains found x → Contains new x
  pub kept : (place : ℕ) (x : T) → slice_get old place ≡ Some x → slice_get new place ≡ Some x

-- no item stands twice
abbrev pub HasNoDoubles : {T : Type 0} → List T → Type 0
HasNoDoubles items = AllPairs (λ x y. x ≢ y) items

-- what was seen: the few, until there are many
abbrev pub seen_in : {T : Type 0} → (few many : List T) → List T
seen_in few [] = few
seen_in few (x ∷ xs) = x ∷ xs

-- where a negative context goes on, from the states that close it: where none is reached
abbrev pub refused_in : (closing closers : List ℕ) → List ℕ
refused_in closing [] = closing
refused_in closing (c ∷ cs) = []

-- an end is seen, at this position
abbrev pub EndsAt : List NetGraph → (g : ℕ) → Config → ℕ → Type 0
EndsAt net g here j = IsNetEnd (states_of net g) here.state × (here.at ≡ j)

-- an edge that closes a context leads from the configuration to this state
pub record ClosesInto (net : List NetGraph) (g : ℕ) (here : Config) (c : ℕ) : Type 0 where
  pub state : State
  pub found : slice_get (states_of net g) here.state ≡ Some state
  pub edge : Edge
  pub inside : Contains state.edges edge
  pub label : edge.label ≡ ContextEnd
  pub to : edge.target ≡ c

-- the state from which a search begins, and those to which edges of the graph lead
abbrev pub targets_of : State → List ℕ
targets_of state = map (λ (edge : Edge). edge.target) state.edges

abbrev pub states_near : List State → ℕ → List ℕ
states_near states first = first ∷ flat_map targets_of states
