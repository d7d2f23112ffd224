-- Which parts are worth a search at a position, and which labels an input is asked of. Public: the
-- contract of the chart speaks of it.
use Rattle.std.specs.Prelude.{◌≡◌, ℕ, ◌⊎◌, List, Some, slice_get, Contains}
use Rattle.std.specs.List.Sorted.{IsStrictlyIncreasing}
use Rattle.ux_net.specs.declared.net_graph.NetGraph.{NetGraph}
use Rattle.ux_net.specs.declared.label.Label.{Label}
use Rattle.ux_net.specs.declared.state.Edge.{Edge}
use Rattle.ux_net.specs.declared.state.State.{State}
use Rattle.ux_net.specs.Nets.{net_grammar, states_of}
use Rattle.ux_meaning.specs.Inputs.{Input}
use Rattle.ux_parts.specs.declared.part.Part.{Part}
use Rattle.ux_parts.specs.declared.parts.Parts.{Parts}
use Rattle.ux_parts.specs.Runs.{Ends, Closes}

module _ (input : Input) (net : List NetGraph) (parts : Parts) where
  -- the part reaches an end or a closer from position i
  abbrev pub ReachesSome : Part → ℕ → Type 0
  ReachesSome part i =
      ((j : ℕ) × Ends input (net_grammar net) parts.levels part.graph part.first i j)
      ⊎ ((c : ℕ) × Closes input (net_grammar net) parts.levels part.graph part.first i c)

  -- The numbers of parts, ascending. Each part that reaches something from position i is among
  -- them.
  pub record AreLikely (i : ℕ) (row : List ℕ) : Type 0 where
    pub ascends : IsStrictlyIncreasing row
    pub whole : (number : ℕ) (part : Part) → slice_get parts.list number ≡ Some part →
        ReachesSome part i → Contains row number

-- the input knows each label of the net
abbrev pub AreKnown : (Label → Type 0) → List NetGraph → Type 0
AreKnown Knows net = (g n : ℕ) (state : State) (edge : Edge) →
    slice_get (states_of net g) n ≡ Some state → Contains state.edges edge → Knows edge.label
