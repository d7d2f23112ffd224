-- Why each word of a net ends: levels of its states and of its graphs, which fall along edges and
-- calls. Inner: the crate's own functions alone speak of it.
use Rattle.std.specs.Prelude.{◌<◌, ℕ, suc, List, [], Option, Some, None, slice_get, get_or, Contains}
use Rattle.ux_digraph.specs.Paths.{row_of, Reaches}
use Rattle.ux_net.specs.declared.net_graph.NetGraph.{NetGraph}
use Rattle.ux_net.specs.Nets.{states_of}
use Rattle.ux_inflect.specs.declared.classes.Ranks.{Ranks}
use Rattle.ux_inflect.specs.declared.classes.Ending.{Ending}
use Rattle.ux_inflect.specs.declared.classes.Ending.TheVariants.{Endless, Ends}
use Rattle.ux_inflect.specs.Cyclic.{call_rows, state_rows}
use Rattle.ux_inflect.specs.Refusing.{IsAcyclic, IsFirstCyclic}

-- one more than the rank, where there is one
abbrev pub level_in : Option ℕ → ℕ
level_in None = 0
level_in (Some rank) = suc rank

-- the level of a graph, and of a state of it
abbrev pub call_level : Ranks → ℕ → ℕ
call_level ranks g = level_in (slice_get ranks.calls.items g)

abbrev pub state_level : Ranks → (g s : ℕ) → ℕ
state_level ranks g s = level_in (slice_get (get_or ranks.states.items g []) s)

-- the state is reached from the start of a graph that is reached from the main graph
abbrev pub IsMet : List NetGraph → (g s : ℕ) → Type 0
IsMet net g s = Reaches (call_rows net) 1 g × Reaches (state_rows (states_of net g)) 0 s

-- from what is met, levels fall along edges and calls
pub record AreRanks (net : List NetGraph) (ranks : Ranks) : Type 0 where
  pub states : (g s t : ℕ) → IsMet net g s → Contains (row_of (state_rows (states_of net g)) s) t →
      state_level ranks g t < state_level ranks g s
  pub calls : (g h : ℕ) → Reaches (call_rows net) 1 g → Contains (row_of (call_rows net) g) h →
      call_level ranks h < call_level ranks g

-- some graph has words without end, or none has
abbrev pub IsEnding : List NetGraph → Ending → Type 0
IsEnding net (Endless g) = IsFirstCyclic net g
IsEnding net (Ends ranks) = IsAcyclic net × AreRanks net ranks

-- what is known of the ranks of one graph
pub record AreRanksOf (net : List NetGraph) (g : ℕ) (ranks : List ℕ) : Type 0 where
  pub falls : Reaches (call_rows net) 1 g → (s t : ℕ) → Reaches (state_rows (states_of net g)) 0 s →
      Contains (row_of (state_rows (states_of net g)) s) t →
      level_in (slice_get ranks t) < level_in (slice_get ranks s)
