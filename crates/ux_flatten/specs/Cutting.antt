-- Which graphs have a copy at a depth, from one depth to the next. Inner: the crate's own functions alone
-- speak of it.
use Rattle.std.specs.Prelude.{◌≡◌, ◌↔◌, ◌⊎◌, ℕ, suc, ◌+◌, ◌-◌, ◌<◌, List, [], ◌∷◌, ◌++◌, Option, Some, None, Bool, true, false, cond, get_or, length, slice_get, Contains}
use Rattle.std.specs.List.{flat_map}
use Rattle.ux_digraph.specs.Rules.{is_marked_at}
use Rattle.ux_net.specs.declared.state.Edge.{Edge}
use Rattle.ux_net.specs.declared.state.State.{State}
use Rattle.ux_net.specs.declared.state_graph.StateGraph.{StateGraph}
use Rattle.ux_net.specs.StateGraphs.{state_grammar, told_states}
use Rattle.ux_flatten.specs.Copies.{called}
use Rattle.ux_flatten.specs.Cuts.{HasCopy, HasNegativeCopy}
use Rattle.ux_flatten.specs.declared.cuts.Made.{Made}

-- the graph that an edge calls, if it has a word, counted from 0
abbrev pub callee_if : (has_word : ℕ → Bool) → Option ℕ → List ℕ
callee_if has_word None = []
callee_if has_word (Some h) = cond (has_word h) ((h - 1) ∷ []) []

abbrev pub callee_of : (has_word : ℕ → Bool) → Edge → List ℕ
callee_of has_word edge = callee_if has_word (called edge.label)

abbrev pub callees_of : (has_word : ℕ → Bool) → State → List ℕ
callees_of has_word state = flat_map (callee_of has_word) state.edges

-- those of all states, and of negative ones from this number on
abbrev pub callees_in : (has_word : ℕ → Bool) → List State → List ℕ
callees_in has_word states = flat_map (callees_of has_word) states

abbrev pub negative_callees : (has_word : ℕ → Bool) → (negative : List Bool) → (a : ℕ) → List State →
    List ℕ
negative_callees has_word negative a [] = []
negative_callees has_word negative a (state ∷ states) =
    cond (is_marked_at negative a) (callees_of has_word state) []
    ++ negative_callees has_word negative (a + 1) states

-- those of all graphs that have a copy, from this one on
abbrev pub made_callees : (has_word : ℕ → Bool) → (copies : List Bool) → (k : ℕ) → List StateGraph →
    List ℕ
made_callees has_word copies k [] = []
made_callees has_word copies k (graph ∷ graphs) =
    cond (is_marked_at copies k) (callees_in has_word graph.states) []
    ++ made_callees has_word copies (k + 1) graphs

-- those that get a negative copy by a graph: all, where the graph has one, and else those of its negative
-- states
abbrev pub turned_by : (has_word : ℕ → Bool) → (is_negative is_copied : Bool) → (row : List Bool) →
    List State → List ℕ
turned_by has_word true is_copied row states = callees_in has_word states
turned_by has_word false true row states = negative_callees has_word row 0 states
turned_by has_word false false row states = []

abbrev pub turned_callees : (has_word : ℕ → Bool) → (copies negative : List Bool) →
    (rows : List (List Bool)) → (k : ℕ) → List StateGraph → List ℕ
turned_callees has_word copies negative rows k [] = []
turned_callees has_word copies negative rows k (graph ∷ graphs) =
    turned_by has_word (is_marked_at negative k) (is_marked_at copies k) (get_or rows k []) graph.states
    ++ turned_callees has_word copies negative rows (k + 1) graphs

-- which graphs have a copy at the depth, and which a negative one
pub record AreMade (graphs : List StateGraph) (depth d : ℕ) (made : Made) : Type 0 where
  pub copy : (k : ℕ) → k < length graphs →
      (is_marked_at made.copies.items k ≡ true) ↔ HasCopy (state_grammar graphs) depth (k + 1) d
  pub negative : (k : ℕ) → k < length graphs →
      (is_marked_at made.negative.items k ≡ true)
      ↔ HasNegativeCopy (state_grammar graphs) depth (k + 1) d

-- an edge of the state calls
pub record HasCall (edges : List Edge) : Type 0 where
  pub edge : Edge
  pub inside : Contains edges edge
  pub h : ℕ
  pub calls : called edge.label ≡ Some h

-- calls at a state are cut off inside a context that may not follow: its graph has a negative copy, or one
-- and the state is negative
abbrev pub Cuts : (is_negative is_copied is_marked : Bool) → Type 0
Cuts is_negative is_copied is_marked =
    (is_negative ≡ true) ⊎ ((is_copied ≡ true) × (is_marked ≡ true))

-- the same of a state by its number, in a graph of which it is told whether it has a copy and a negative
-- one, and which states are negative
pub record IsCutAt (states : List State) (row : List Bool) (is_negative is_copied : Bool) (node : ℕ) :
    Type 0 where
  pub state : State
  pub found : slice_get states node ≡ Some state
  pub call : HasCall state.edges
  pub cut : Cuts is_negative is_copied (is_marked_at row node)

pub record IsCutState (graphs : List StateGraph) (rows : List (List Bool)) (made : Made)
    (g node : ℕ) : Type 0 where
  pub k : ℕ
  pub at : g ≡ suc k
  pub cut : IsCutAt (told_states graphs g) (get_or rows k []) (is_marked_at made.negative.items k)
      (is_marked_at made.copies.items k) node
