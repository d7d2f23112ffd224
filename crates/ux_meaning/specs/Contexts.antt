-- Which contexts apply at a position. The manual, on contexts. Public: the contracts of the chart
-- and of the walk speak of it.
use Rattle.std.specs.Prelude.{◌≡◌, ℕ, List, [], ◌∷◌, Some, slice_get, Contains}
use Rattle.ux_net.specs.declared.label.Label.{Label}
use Rattle.ux_net.specs.declared.label.Label.TheVariants.{Negative}
use Rattle.ux_net.specs.declared.state.Edge.{Edge}
use Rattle.ux_net.specs.declared.state.State.{State}
use Rattle.ux_net.specs.declared.net_graph.NetGraph.{NetGraph}
use Rattle.ux_net.specs.Words.{Sign, Letter, opens, mark_of, Grammar, IsBody}
use Rattle.ux_net.specs.Nets.{states_of}
use Rattle.ux_outputs.specs.declared.event.Event.{Event}
use Rattle.ux_meaning.specs.Inputs.{Input}
use Rattle.ux_meaning.specs.Meaning.{Seq, RefusesBy}

-- the edge stands in the graph and opens a context
pub record IsOpening (net : List NetGraph) (g : ℕ) (edge : Edge) : Type 0 where
  pub from : ℕ
  pub state : State
  pub found : slice_get (states_of net g) from ≡ Some state
  pub inside : Contains state.edges edge
  pub sign : Sign
  pub is : mark_of (edge.label ∷ []) ≡ opens sign

-- a body that begins at a place is closed into c
abbrev pub HasBody : Grammar → (g opening c : ℕ) → List Letter → Type 0
HasBody grammar g opening c word = IsBody g (grammar.graph g) opening c word

module _ (input : Input) (grammar : Grammar) (levels : ℕ) where
  -- some word of the body applies at i
  pub record Holds (g opening c i : ℕ) : Type 0 where
    pub word : List Letter
    pub body : HasBody grammar g opening c word
    pub end : ℕ
    pub events : List Event
    pub seq : Seq input grammar (RefusesBy input grammar levels) word i end events

  -- the context that begins at a place and is closed into c applies at i: a negative one where it
  -- has a body and no word of it applies, a positive one where some does
  abbrev pub Applies : (g : ℕ) → Label → (opening i c : ℕ) → Type 0
  Applies g Negative opening i c =
      ((word : List Letter) × HasBody grammar g opening c word) × (Holds g opening c i → ⊥)
  Applies g label opening i c = Holds g opening c i
