-- The states of a flat graph: copies of graphs stand in place of calls, to a depth. The manual, on
-- flattening a grammar. Public: the crate's public contracts speak of it.
use Rattle.std.specs.Prelude.{ℕ, zero, suc, ◌+◌, List, [], ◌∷◌, ◌++◌, Option, Some, None, Bool, true, false, cond, length, sum_by, flat_map}
use Rattle.ux_tokens.specs.Tokens.{STOP}
use Rattle.ux_net.specs.declared.label.Label.{Label}
use Rattle.ux_net.specs.declared.label.Label.TheVariants.{Empty, CaseExact, Call}
use Rattle.ux_net.specs.declared.state.Edge.{Edge}
use Rattle.ux_net.specs.declared.state.State.{State}
use Rattle.ux_net.specs.declared.state_graph.StateGraph.{StateGraph}
use Rattle.ux_net.specs.StateGraphs.{told_at, told_states}

-- the graph that a label calls, if it is a call
abbrev pub called : Label → Option ℕ
called (Call graph) = Some graph
called label = None

-- the edges of a graph, in order of state and edge
abbrev pub edges_of : List State → List Edge
edges_of states = flat_map (λ (state : State). state.edges) states

-- a call that isn't expanded becomes a text that no token has; another label stays
abbrev pub stopped : (calls : Option ℕ) → Label → Label
stopped None label = label
stopped (Some graph) label = CaseExact STOP

-- an end of a copy leads to the call's target, and isn't final; an end of the main graph's copy is
abbrev pub is_end : (back : Option ℕ) → Bool → Bool
is_end None is_final = is_final
is_end (Some target) is_final = false

abbrev pub end_edges : (back : Option ℕ) → Bool → List Edge
end_edges None is_final = []
end_edges (Some target) false = []
end_edges (Some target) true = record { label = Empty; output = []; target = target } ∷ []

-- The graphs, and which of them have a word.
module _ (graphs : List StateGraph) (has_word : ℕ → Bool) where
  -- the graph that is copied in place of a call: at a depth of 1 or more, where it has a word
  abbrev pub copied : (depth : ℕ) → (calls : Option ℕ) → Option ℕ
  copied zero calls = None
  copied (suc d) None = None
  copied (suc d) (Some h) = cond (has_word h) (Some h) None

  -- the graph that is copied in place of an edge in a copy at the depth
  abbrev pub copied_by : (depth : ℕ) → Edge → Option ℕ
  copied_by depth edge = copied depth (called edge.label)

  -- the sizes of copies one depth below tell how many states stand in place of an edge
  abbrev pub size_if : (sizes : ℕ → ℕ) → Option ℕ → ℕ
  size_if sizes None = 0
  size_if sizes (Some h) = sizes h

  abbrev pub room : (sizes : ℕ → ℕ) → (depth : ℕ) → Edge → ℕ
  room sizes depth edge = size_if sizes (copied_by depth edge)

  -- so many states has a copy at the depth, with all copies in place of its calls
  abbrev pub size : (depth g : ℕ) → ℕ
  size zero g = length (told_states graphs g)
  size (suc d) g = length (told_states graphs g)
      + sum_by (room (size d) (suc d)) (edges_of (told_states graphs g))

  -- A copy at a depth: the number of its first state, and the state to which its ends lead, unless it
  -- is the main graph's copy. The sizes are those of copies one depth below.
  module _ (sizes : ℕ → ℕ) (depth first : ℕ) (back : Option ℕ) where
    -- an edge of the copy, in place of which a graph may be copied whose first state is `next`
    abbrev pub copy_edge : (copied : Option ℕ) → (next : ℕ) → Edge → Edge
    copy_edge None next edge = record {
      label = stopped (called edge.label) edge.label;
      output = edge.output;
      target = first + edge.target;
    }
    copy_edge (Some h) next edge = record {
      label = Empty;
      output = edge.output;
      target = next;
    }

    -- edges of the copy, where `next` is the first state that follows what stands before them
    abbrev pub copy_edges : (next : ℕ) → List Edge → List Edge
    copy_edges next [] = []
    copy_edges next (edge ∷ edges) = copy_edge (copied_by depth edge) next edge
        ∷ copy_edges (next + room sizes depth edge) edges

    abbrev pub copy_state : (next : ℕ) → State → State
    copy_state next state = record {
      is_final = is_end back state.is_final;
      edges = copy_edges next state.edges ++ end_edges back state.is_final;
    }

    -- states of the copy
    abbrev pub copy_states : (next : ℕ) → List State → List State
    copy_states next [] = []
    copy_states next (state ∷ states) = copy_state next state
        ∷ copy_states (next + sum_by (room sizes depth) state.edges) states

    -- the copies in place of edges, by what stands in place of one: a graph's copy that begins at a
    -- state and whose ends lead back to one
    abbrev pub copy_if : (copy : (h next : ℕ) → Option ℕ → List State) → (copied : Option ℕ) →
        (next : ℕ) → Edge → List State
    copy_if copy None next edge = []
    copy_if copy (Some h) next edge = copy h next (Some (first + edge.target))

    abbrev pub copies : (copy : (h next : ℕ) → Option ℕ → List State) → (next : ℕ) → List Edge →
        List State
    copies copy next [] = []
    copies copy next (edge ∷ edges) = copy_if copy (copied_by depth edge) next edge
        ++ copies copy (next + room sizes depth edge) edges

  -- The states of a copy of graph g at the depth, followed by the copies in place of its calls, in
  -- order of state and edge, each followed by its own.
  abbrev pub copy : (depth g first : ℕ) → (back : Option ℕ) → List State
  copy zero g first back =
      copy_states (λ h. 0) zero first back (first + length (told_states graphs g))
      (told_states graphs g)
  copy (suc d) g first back =
      copy_states (size d) (suc d) first back (first + length (told_states graphs g))
      (told_states graphs g)
      ++ copies (size d) (suc d) first back (copy d) (first + length (told_states graphs g))
      (edges_of (told_states graphs g))

-- the name of a graph, where there is one
abbrev pub name_in : Option StateGraph → List ℕ
name_in None = []
name_in (Some graph) = graph.name

-- the flat graph to the depth: the main graph's copy, with its name
abbrev pub flat_graph : List StateGraph → (has_word : ℕ → Bool) → (depth : ℕ) → StateGraph
flat_graph graphs has_word depth = record {
  name = name_in (told_at graphs 1);
  states = copy graphs has_word depth 1 0 None;
}
