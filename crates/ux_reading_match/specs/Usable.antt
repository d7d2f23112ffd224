-- Which nets can be searched in sentence automata. Public: the crate's public contracts speak of it.
use Rattle.std.specs.Prelude.{◌≡◌, ℕ, ◌<◌, List, Some, slice_get, Contains, ⊤}
use Rattle.ux_net.specs.declared.label.Label.{Label}
use Rattle.ux_net.specs.declared.label.Label.TheVariants.{Space, NoSpace, Positive, Negative, ContextEnd, Cut}
use Rattle.ux_net.specs.declared.net_graph.NetGraph.{NetGraph}
use Rattle.ux_net.specs.declared.state.Edge.{Edge}
use Rattle.ux_net.specs.declared.state.State.{State}
use Rattle.ux_net.specs.Nets.{graph_at}
use Rattle.ux_net.specs.Whole.{whole_states_of}
use Rattle.ux_reading_match.specs.declared.error.TfstError.{TfstError}
use Rattle.ux_reading_match.specs.declared.error.TfstError.TheVariants.{BadItem, NoMemory}

-- a label that asks for a space or for none, opens or closes a context, or cuts
abbrev pub IsBadLabel : Label → Type 0
IsBadLabel Space = Unit {0}
IsBadLabel NoSpace = Unit {0}
IsBadLabel Positive = Unit {0}
IsBadLabel Negative = Unit {0}
IsBadLabel ContextEnd = Unit {0}
IsBadLabel Cut = Unit {0}
IsBadLabel label = ⊥

-- one of the edges has such a label
abbrev pub HasBad : List Edge → Type 0
HasBad edges = (edge : Edge) × Contains edges edge × IsBadLabel edge.label

-- such an edge leaves the state, whether a run comes to it or not
pub record IsBadState (net : List NetGraph) (g n : ℕ) : Type 0 where
  pub state : State
  pub found : slice_get (whole_states_of net g) n ≡ Some state
  pub bad : HasBad state.edges

-- the first such state of the first graph that has one
pub record IsFirstBad (net : List NetGraph) (g n : ℕ) : Type 0 where
  pub bad : IsBadState net g n
  pub graph : (h m : ℕ) → h < g → IsBadState net h m → ⊥
  pub state : (m : ℕ) → m < n → IsBadState net g m → ⊥

-- no state is so
abbrev pub IsUsable : List NetGraph → Type 0
IsUsable net = (g n : ℕ) → IsBadState net g n → ⊥

-- the name of a graph
pub record IsNameOf (net : List NetGraph) (g : ℕ) (name : List ℕ) : Type 0 where
  pub graph : NetGraph
  pub found : graph_at net g ≡ Some graph
  pub same : name ≡ graph.name

-- when each refusal comes; want of memory may come at any time
abbrev pub Refuses : List NetGraph → TfstError → Type 0
Refuses net (BadItem name node) = (g : ℕ) × IsFirstBad net g node × IsNameOf net g name
Refuses net NoMemory = ⊤
