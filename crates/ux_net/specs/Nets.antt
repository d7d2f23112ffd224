-- Compiled graphs, seen as places and steps: a state is a place, an edge a step of one label.
-- Public: the crate's public contracts speak of it.
use Rattle.std.specs.Prelude.{◌≡◌, ℕ, zero, suc, ◌<◌, ◌≤◌, List, [], ◌∷◌, Option, Some, None, slice_get, Contains, length, IsTrue, Bool, true, false}
use Rattle.std.specs.List.{list_all}
use Rattle.ux_net.specs.declared.label.Label.{Label}
use Rattle.ux_net.specs.declared.label.Label.TheVariants.{Empty, CaseFolded, CaseExact, Mask, Brace, Space, NoSpace, Begin, End, Positive, Negative, ContextEnd, Cut, Call}
use Rattle.ux_net.specs.declared.state.Edge.{Edge}
use Rattle.ux_net.specs.declared.state.State.{State}
use Rattle.ux_net.specs.declared.net_graph.NetGraph.{NetGraph}
use Rattle.ux_net.specs.Words.{Step, StepGraph, Grammar}

module _ (states : List State) where
  -- a step along an edge, with the edge's output
  pub record IsNetStep (step : Step) : Type 0 where
    pub state : State
    pub found : slice_get states step.from ≡ Some state
    pub edge : Edge
    pub inside : Contains state.edges edge
    pub to : step.to ≡ edge.target
    pub label : step.labels ≡ edge.label ∷ []
    pub puts : step.output ≡ edge.output

  -- the state is final
  pub record IsNetEnd (n : ℕ) : Type 0 where
    pub state : State
    pub found : slice_get states n ≡ Some state
    pub final : IsTrue state.is_final

  -- the states as a graph that starts at state 0
  abbrev pub net_graph : StepGraph
  net_graph = record {
    start = 0;
    IsPlace = λ n. n < length states;
    IsEnd = IsNetEnd;
    IsStep = IsNetStep;
  }

-- the graph of this number, counted from 1
abbrev pub graph_at : List NetGraph → ℕ → Option NetGraph
graph_at graphs zero = None
graph_at graphs (suc n) = slice_get graphs n

-- the states of a graph, where there is one
abbrev pub states_in : Option NetGraph → List State
states_in None = []
states_in (Some graph) = graph.states

-- the states of the graph of this number
abbrev pub states_of : List NetGraph → ℕ → List State
states_of graphs g = states_in (graph_at graphs g)

-- the graphs of a net, of which the first is the main graph
abbrev pub net_grammar : List NetGraph → Grammar
net_grammar graphs = record {
  count = length graphs;
  graph = λ g. net_graph (states_of graphs g);
}

-- a call is of a graph that is there
abbrev pub IsCalled : ℕ → Label → Type 0
IsCalled count (Call graph) = (1 ≤ graph) × (graph ≤ count)
IsCalled count other = Unit {0}

-- a label that neither bounds a context nor cuts: a text, a mask, a mark in braces, a space, `#`, the
-- empty word, a variable's begin or end, or a call
abbrev pub IsPlain : Label → Type 0
IsPlain Empty = Unit {0}
IsPlain (CaseFolded text) = Unit {0}
IsPlain (CaseExact text) = Unit {0}
IsPlain (Mask mask) = Unit {0}
IsPlain (Brace text) = Unit {0}
IsPlain Space = Unit {0}
IsPlain NoSpace = Unit {0}
IsPlain (Begin name) = Unit {0}
IsPlain (End name) = Unit {0}
IsPlain (Call graph) = Unit {0}
IsPlain other = ⊥

-- the same as a test
abbrev pub is_plain : Label → Bool
is_plain Positive = false
is_plain Negative = false
is_plain ContextEnd = false
is_plain Cut = false
is_plain other = true

-- a label that doesn't cut off what stands on its left
abbrev pub CutsNothing : Label → Type 0
CutsNothing Cut = ⊥
CutsNothing other = Unit {0}

-- the same as a test
abbrev pub is_uncut : Label → Bool
is_uncut Cut = false
is_uncut other = true

-- the label of each edge of the state, of the graph, passes a test
abbrev pub each_in_state : (Label → Bool) → State → Bool
each_in_state test state = list_all (λ (edge : Edge). test edge.label) state.edges

abbrev pub each_in_graph : (Label → Bool) → NetGraph → Bool
each_in_graph test graph = list_all (each_in_state test) graph.states

-- each edge has such a label
abbrev pub EachLabel : (Label → Type 0) → List NetGraph → Type 0
EachLabel Is graphs = (g n : ℕ) (state : State) (edge : Edge) →
    slice_get (states_of graphs g) n ≡ Some state → Contains state.edges edge → Is edge.label

-- no label bounds a context or cuts; none cuts
abbrev pub ArePlain : List NetGraph → Type 0
ArePlain graphs = EachLabel IsPlain graphs

abbrev pub CutNothing : List NetGraph → Type 0
CutNothing graphs = EachLabel CutsNothing graphs

-- an edge leads to a state that is there, and calls a graph that is there
pub record IsEdgeInside (count states : ℕ) (edge : Edge) : Type 0 where
  pub target : edge.target < states
  pub called : IsCalled count edge.label

-- every graph has a state, and every edge stays inside
pub record AreInside (graphs : List NetGraph) : Type 0 where
  pub start : (g : ℕ) (graph : NetGraph) → graph_at graphs g ≡ Some graph → 0 < length graph.states
  pub edges : (g n : ℕ) (state : State) (edge : Edge) →
      slice_get (states_of graphs g) n ≡ Some state → Contains state.edges edge →
      IsEdgeInside (length graphs) (length (states_of graphs g)) edge
