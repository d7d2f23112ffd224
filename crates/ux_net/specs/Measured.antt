-- Why every walk through a net ends: ranks that fall along each edge that may take nothing. Public:
-- the crate's public contracts speak of it.
use Rattle.std.specs.Prelude.{◌≡◌, ℕ, ◌+◌, ◌*◌, ◌<◌, ◌≤◌, List, Option, Some, None, slice_get, Contains, Bool, false, cond, IsTrue, get_or, sum_by}
use Rattle.ux_net.specs.declared.label.Label.{Label}
use Rattle.ux_net.specs.declared.label.Label.TheVariants.{Empty, NoSpace, Begin, End, Positive, Negative, Cut, Call}
use Rattle.ux_net.specs.declared.state.Edge.{Edge}
use Rattle.ux_net.specs.declared.state.State.{State}
use Rattle.ux_net.specs.declared.net_graph.NetGraph.{NetGraph}
use Rattle.ux_net.specs.declared.net_graph.Rank.{Rank}
use Rattle.ux_net.specs.Nets.{graph_at, states_of, net_grammar}
use Rattle.ux_net.specs.Closers.{ClosesInto}

-- the sum of all minor numbers, which none of them exceeds
abbrev pub width_of : List NetGraph → ℕ
width_of graphs =
    sum_by (λ (graph : NetGraph). sum_by (λ (rank : Rank). rank.minor) graph.ranks) graphs

-- a rank as one number: the major number weighs more than every minor one
abbrev pub weigh : ℕ → Rank → ℕ
weigh width rank = rank.major * (width + 1) + rank.minor

abbrev pub rank_in : ℕ → Option NetGraph → ℕ → ℕ
rank_in width None n = 0
rank_in width (Some graph) n =
    weigh width (get_or graph.ranks n (record { major = 0; minor = 0 }))

-- the rank of state n of graph g
abbrev pub rank_of : List NetGraph → ℕ → ℕ → ℕ
rank_of graphs g n = rank_in (width_of graphs) (graph_at graphs g) n

abbrev pub frees_in : Option NetGraph → ℕ → Bool
frees_in None n = false
frees_in (Some graph) n = get_or graph.free n false

-- state n of graph g is marked as one from which an end may be reached with no token
abbrev pub is_free : List NetGraph → ℕ → ℕ → Bool
is_free graphs g n = frees_in (graph_at graphs g) n

-- 1 where a token is taken before the end, else 0
abbrev pub must : List NetGraph → ℕ → ℕ → ℕ
must graphs g n = cond (is_free graphs g n) 0 1

-- the sum of all ranks, which none of them exceeds
abbrev pub bound_of : List NetGraph → ℕ
bound_of graphs =
    sum_by (λ (graph : NetGraph). sum_by (weigh (width_of graphs)) graph.ranks) graphs

-- the rank falls, and a state that leads to a marked one is marked
abbrev pub IsLower : List NetGraph → (g from to : ℕ) → Type 0
IsLower graphs g from to =
    (rank_of graphs g to < rank_of graphs g from) × (must graphs g from ≤ must graphs g to)

-- what a context opens ranks lower, and so does each state into which it is closed
abbrev pub FallsOver : List NetGraph → (g from to : ℕ) → Type 0
FallsOver graphs g from to =
    (rank_of graphs g to < rank_of graphs g from)
    × ((c : ℕ) → ClosesInto (net_grammar graphs) g to c → IsLower graphs g from c)

-- What holds of an edge: where it may take nothing, it leads lower. A call leads lower to the start
-- of its graph, and where that is marked, to its target too. A context leads lower to its body and
-- behind it.
abbrev pub Falls : List NetGraph → (g from to : ℕ) → Label → Type 0
Falls graphs g from to Empty = IsLower graphs g from to
Falls graphs g from to NoSpace = IsLower graphs g from to
Falls graphs g from to (Begin name) = IsLower graphs g from to
Falls graphs g from to (End name) = IsLower graphs g from to
Falls graphs g from to Positive = FallsOver graphs g from to
Falls graphs g from to Negative = FallsOver graphs g from to
Falls graphs g from to Cut = IsLower graphs g from to
Falls graphs g from to (Call h) =
    (rank_of graphs h 0 < rank_of graphs g from)
    × (must graphs h 0 ≡ 0 → IsLower graphs g from to)
Falls graphs g from to other = Unit {0}

-- each edge falls, and final states are marked
pub record IsMeasured (graphs : List NetGraph) : Type 0 where
  pub falls : (g n : ℕ) (state : State) (edge : Edge) →
      slice_get (states_of graphs g) n ≡ Some state → Contains state.edges edge →
      Falls graphs g n edge.target edge.label
  pub ends : (g n : ℕ) (state : State) → slice_get (states_of graphs g) n ≡ Some state →
      IsTrue state.is_final → must graphs g n ≡ 0
