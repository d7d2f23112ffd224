-- Which parts may reach something from a position, told by the edges of their first states. Public:
-- the contracts of the chart of a text speak of it.
use Rattle.std.specs.Prelude.{◌≡◌, ℕ, ◌<◌, ◌⊎◌, List, Some, slice_get, Contains, IsTrue}
use Rattle.std.specs.List.Sorted.{IsStrictlyIncreasing}
use Rattle.ux_net.specs.declared.label.Label.{Label}
use Rattle.ux_net.specs.declared.label.Label.TheVariants.{Call}
use Rattle.ux_net.specs.declared.net_graph.NetGraph.{NetGraph}
use Rattle.ux_net.specs.declared.state.Edge.{Edge}
use Rattle.ux_net.specs.declared.state.State.{State}
use Rattle.ux_net.specs.Nets.{states_of}
use Rattle.ux_meaning.specs.Inputs.{Input}
use Rattle.ux_parts.specs.declared.part.Part.{Part}
use Rattle.ux_parts.specs.declared.parts.Parts.{Parts}
use Rattle.ux_parts.specs.Parts.{number_of}
use Rattle.ux_chart.specs.Likely.{ReachesSome}
use Rattle.ux_text_chart.specs.Leading.{MayLead}

-- the part of the graph, where there is one, stands in the row
abbrev pub IsListed : Parts → (row : List ℕ) → (graph : ℕ) → Type 0
IsListed parts row graph =
    (number : ℕ) → number_of parts graph 0 ≡ Some number → Contains row number

-- a call may lead on where the part that it calls stands in the row; any other label by itself
abbrev pub MayLeadTo : Input → Parts → (row : List ℕ) → Label → ℕ → Type 0
MayLeadTo input parts row (Call graph) i = IsListed parts row graph
MayLeadTo input parts row label i = MayLead input label i

-- one of the edges may lead on
abbrev pub SomeLeads : Input → Parts → (row : List ℕ) → List Edge → ℕ → Type 0
SomeLeads input parts row edges i =
    (edge : Edge) × Contains edges edge × MayLeadTo input parts row edge.label i

module _ (input : Input) (net : List NetGraph) (parts : Parts) where
  -- the first state of the part is final, or one of its edges may lead on
  pub record MayBegin (row : List ℕ) (part : Part) (i : ℕ) : Type 0 where
    pub state : State
    pub found : slice_get (states_of net part.graph) part.first ≡ Some state
    pub so : IsTrue state.is_final ⊎ SomeLeads input parts row state.edges i

  -- the numbers in the row ascend, and those of the parts below a bound that reach something are among
  -- them
  pub record IsLikelyRow (row : List ℕ) (i bound : ℕ) : Type 0 where
    pub ascends : IsStrictlyIncreasing row
    pub below : (number : ℕ) → Contains row number → number < bound
    pub whole : (number : ℕ) (part : Part) → number < bound →
        slice_get parts.list number ≡ Some part → ReachesSome input net parts part i →
        Contains row number
