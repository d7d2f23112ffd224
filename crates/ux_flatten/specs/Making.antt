-- Copies that are still to be made, and what is told of graphs as lists. Inner: the crate's own functions
-- alone speak of it.
use Rattle.std.specs.Prelude.{◌≡◌, ℕ, zero, suc, ◌+◌, ◌-◌, ◌<◌, ◌≤◌, List, [], ◌∷◌, ◌++◌, Option, Some, None, Bool, false, cond, get_or, length, ltb, sum_by}
use Rattle.ux_net.specs.declared.state.Edge.{Edge}
use Rattle.ux_net.specs.declared.state.State.{State}
use Rattle.ux_net.specs.declared.state_graph.StateGraph.{StateGraph}
use Rattle.ux_net.specs.StateGraphs.{state_grammar}
use Rattle.ux_boxes.specs.Refusing.{IsFirstAmong}
use Rattle.ux_state_places.specs.RefusingStates.{names_told}
use Rattle.ux_flatten.specs.declared.error.FlattenError.{FlattenError}
use Rattle.ux_flatten.specs.declared.error.FlattenError.TheVariants.{TooBig, NegativeCut, NoMemory}
use Rattle.ux_flatten.specs.declared.pending.Pending.{Pending}
use Rattle.ux_flatten.specs.declared.source.Source.{Source}
use Rattle.ux_flatten.specs.Cuts.{IsNegativeCut}
use Rattle.ux_flatten.specs.Flattening.{IsTooBig}
use Rattle.ux_flatten.specs.Copies.{called, copied_by, copy, copy_edge, copy_edges, copy_state, copy_states, edges_of, room, size}

-- why the states aren't made
abbrev pub RefusesSize : List StateGraph → (depth : ℕ) → FlattenError → Type 0
RefusesSize graphs depth TooBig = IsTooBig graphs depth
RefusesSize graphs depth (NegativeCut name node) = ⊥
RefusesSize graphs depth NoMemory = Unit {0}

-- why a call that is left out is refused
abbrev pub RefusesCut : List StateGraph → (depth : ℕ) → FlattenError → Type 0
RefusesCut graphs depth TooBig = ⊥
RefusesCut graphs depth (NegativeCut name node) =
    IsFirstAmong (names_told graphs) (IsNegativeCut (state_grammar graphs) depth) name node
RefusesCut graphs depth NoMemory = Unit {0}

-- the graph of this number is marked as one that has a word
abbrev pub word_at : List Bool → ℕ → Bool
word_at marks zero = false
word_at marks (suc n) = get_or marks n false

-- the size in a row of those of all graphs
abbrev pub size_at : List ℕ → ℕ → ℕ
size_at row zero = 0
size_at row (suc n) = get_or row n 0

-- a size is told as far as this number, which is one more than the most states of a flat graph
abbrev pub MANY : ℕ
MANY = 1000001

abbrev pub capped : ℕ → ℕ
capped n = cond (ltb n MANY) n MANY

-- how many states stand in place of an edge at a depth of 1 or more, by the sizes of copies one depth
-- below
abbrev pub size_called : (has_word : ℕ → Bool) → (sizes : ℕ → ℕ) → Option ℕ → ℕ
size_called has_word sizes None = 0
size_called has_word sizes (Some h) = cond (has_word h) (sizes h) 0

abbrev pub callee_size : (has_word : ℕ → Bool) → (sizes : ℕ → ℕ) → Edge → ℕ
callee_size has_word sizes edge = size_called has_word sizes (called edge.label)

-- the size of a copy of a graph at depth 0, and at one above that of the sizes, as far as sizes are told
abbrev pub own_size : StateGraph → ℕ
own_size graph = capped (length graph.states)

abbrev pub size_from : (has_word : ℕ → Bool) → (sizes : ℕ → ℕ) → StateGraph → ℕ
size_from has_word sizes graph =
    capped (length graph.states + sum_by (callee_size has_word sizes) (edges_of graph.states))

-- the row has the size of each graph at the depth, as far as sizes are told
abbrev pub IsSizeRow : List StateGraph → (has_word : ℕ → Bool) → (depth : ℕ) → List ℕ → Type 0
IsSizeRow graphs has_word depth row = (g : ℕ) → 1 ≤ g → g ≤ length graphs →
    size_at row g ≡ capped (size graphs has_word depth g)

-- there is such a row for each depth up to this one
pub record AreSizes (graphs : List StateGraph) (has_word : ℕ → Bool) (depth : ℕ)
    (rows : List (List ℕ)) : Type 0 where
  pub count : length rows ≡ depth + 1
  pub row : (d : ℕ) → d ≤ depth → IsSizeRow graphs has_word d (get_or rows d [])

module _ (source : Source) where
  abbrev pub has_word : ℕ → Bool
  has_word g = word_at source.words.items g

  -- the sizes of copies one depth below
  abbrev pub sizes_below : (depth : ℕ) → ℕ → ℕ
  sizes_below depth h = size_at (get_or source.sizes.items (depth - 1) []) h

  abbrev pub room_in : Pending → Edge → ℕ
  room_in made edge =
      room source.graphs.items has_word (sizes_below made.depth) made.depth edge

  abbrev pub edge_in : Pending → (next : ℕ) → Edge → Edge
  edge_in made next edge =
      copy_edge source.graphs.items has_word (sizes_below made.depth) made.depth made.first made.back
      (copied_by source.graphs.items has_word made.depth edge) next edge

  abbrev pub edges_in : Pending → (next : ℕ) → List Edge → List Edge
  edges_in made next edges =
      copy_edges source.graphs.items has_word (sizes_below made.depth) made.depth made.first made.back
      next edges

  abbrev pub state_in : Pending → (next : ℕ) → State → State
  state_in made next state =
      copy_state source.graphs.items has_word (sizes_below made.depth) made.depth made.first made.back
      next state

  abbrev pub states_in : Pending → (next : ℕ) → List State → List State
  states_in made next states =
      copy_states source.graphs.items has_word (sizes_below made.depth) made.depth made.first made.back
      next states

  -- the copy in place of an edge of another one
  abbrev pub pending_if : Pending → Option ℕ → (next : ℕ) → Edge → List Pending
  pending_if made None next edge = []
  pending_if made (Some h) next edge = record {
    graph = h;
    depth = made.depth - 1;
    first = next;
    back = Some (made.first + edge.target);
  } ∷ []

  abbrev pub pending_in : Pending → (next : ℕ) → List Edge → List Pending
  pending_in made next [] = []
  pending_in made next (edge ∷ edges) =
      pending_if made (copied_by source.graphs.items has_word made.depth edge) next edge
      ++ pending_in made (next + room_in made edge) edges

  -- the states of copies of which the last is made first, each followed by those in place of its calls
  abbrev pub states_left : List Pending → List State
  states_left [] = []
  states_left (made ∷ pending) = states_left pending
      ++ copy source.graphs.items has_word made.depth made.graph made.first made.back

  -- the same of copies in order
  abbrev pub states_inner : List Pending → List State
  states_inner [] = []
  states_inner (made ∷ pending) =
      copy source.graphs.items has_word made.depth made.graph made.first made.back
      ++ states_inner pending

  -- a copy at this depth or below, of a graph that is there, whose size is told
  pub record IsToMake (depth : ℕ) (made : Pending) : Type 0 where
    pub deep : made.depth ≤ depth
    pub from : 1 ≤ made.graph
    pub to : made.graph ≤ length source.graphs.items
    pub few : size source.graphs.items has_word made.depth made.graph < MANY
