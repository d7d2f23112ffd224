-- Positions that no label of a net tells apart, as those before and behind a space. Public: the
-- contracts of an input speak of it.
use Rattle.std.specs.Prelude.{◌≡◌, ℕ, ◌↔◌, List, Some, slice_get, Contains}
use Rattle.ux_net.specs.declared.label.Label.{Label}
use Rattle.ux_net.specs.declared.label.Label.TheVariants.{Space, NoSpace}
use Rattle.ux_net.specs.declared.net_graph.NetGraph.{NetGraph}
use Rattle.ux_net.specs.declared.state.Edge.{Edge}
use Rattle.ux_net.specs.declared.state.State.{State}
use Rattle.ux_net.specs.Nets.{states_of}
use Rattle.ux_meaning.specs.Inputs.{Input}
use Rattle.ux_chart.specs.declared.sharing.Sharing.{Sharing}
use Rattle.ux_chart.specs.declared.sharing.Sharing.TheVariants as sharing

-- a space, or the sign `#` that forbids one
abbrev pub IsSpacing : Label → Type 0
IsSpacing Space = Unit {0}
IsSpacing NoSpace = Unit {0}
IsSpacing other = ⊥

-- the label doesn't ask for spaces
abbrev pub IsUnspaced : Label → Type 0
IsUnspaced label = IsSpacing label → ⊥

-- such a label takes the same from both positions
abbrev pub AreAlike : Input → (i k : ℕ) → Type 0
AreAlike input i k = (label : Label) → IsUnspaced label → (j : ℕ) →
    input.Takes label i j ↔ input.Takes label k j

-- all of the edges have such labels
abbrev pub AreUnspaced : List Edge → Type 0
AreUnspaced edges = (edge : Edge) → Contains edges edge → IsUnspaced edge.label

-- no edge of a graph has another label
abbrev pub IsUnspacedGraph : List NetGraph → (g : ℕ) → Type 0
IsUnspacedGraph net g = (n : ℕ) (state : State) → slice_get (states_of net g) n ≡ Some state →
    AreUnspaced state.edges

-- nor an edge of the net
abbrev pub IsUnspacedNet : List NetGraph → Type 0
IsUnspacedNet net = (g : ℕ) → IsUnspacedGraph net g

-- positions share a row only in a net of such labels
abbrev pub IsSharing : List NetGraph → Sharing → Type 0
IsSharing net sharing.Alike = IsUnspacedNet net
IsSharing net sharing.Nowhere = Unit {0}
