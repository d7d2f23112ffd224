-- The states that are made of the places of a graph: one for each place that is reached, and then
-- those of chains, which stand between the labels of a line. The manual, on compiled graphs.
-- Public, through `Compiling`.
use Rattle.std.specs.Prelude.{◌≡◌, ℕ, zero, suc, ◌+◌, ◌-◌, ◌<◌, List, [], ◌∷◌, ◌++◌, map, Option, Some, None, slice_get, get_or, length, sum_by, Contains, Bool, true, false, cond, nat_eq, ltb}
use Rattle.std.specs.List.{range_with_len, flat_map, list_any, count_by}
use Rattle.ux_grf.specs.declared.item.Piece.{Piece}
use Rattle.ux_net.specs.declared.label.Label.{Label}
use Rattle.ux_net.specs.declared.label.Label.TheVariants.{Empty, Call}
use Rattle.ux_boxes.specs.declared.place.Place.{Place}
use Rattle.ux_net.specs.declared.state.Edge.{Edge}
use Rattle.ux_net.specs.declared.state.State.{State}
use Rattle.ux_boxes.specs.Places.{label_lines, place_output, place_targets, is_reached}
use Rattle.ux_boxes.specs.Fit.{IsLine}

-- the labels of a line, where there is one
abbrev pub labels_in : Option (List Label) → List Label
labels_in None = []
labels_in (Some line) = line

-- the graph that a line calls behind an output: the box puts something out, and a call comes first
abbrev pub called_behind : (output : List Piece) → (line : List Label) → Option ℕ
called_behind (first ∷ rest) (Call graph ∷ labels) = Some graph
called_behind output line = None

-- the labels of a line's edges: before such a call the output has an edge of its own
abbrev pub edge_labels : (called : Option ℕ) → (line : List Label) → List Label
edge_labels None line = line
edge_labels (Some graph) line = Empty ∷ line

-- how many edges a line has but the first
abbrev pub later_edges : (output : List Piece) → (line : List Label) → ℕ
later_edges output line = length (edge_labels (called_behind output line) line) - 1

-- one for the place, and one for each edge of its lines but the first of a line
abbrev pub place_size : Place → ℕ
place_size place = 1 + sum_by (later_edges place.output) place.lines

-- each edge leads to a state that is there
abbrev pub AreTargetsInside : List State → Type 0
AreTargetsInside states =
    (n : ℕ) (state : State) (edge : Edge) → slice_get states n ≡ Some state →
    Contains state.edges edge → edge.target < length states

module _ (places : List Place) where
  -- a place has a state where it is reached and isn't place 1, the end
  abbrev pub has_state : ℕ → Bool
  has_state a = cond (nat_eq a 1) false (is_reached places a)

  -- the number of a place's state: how many places before it have one
  abbrev pub number : ℕ → ℕ
  number a = count_by has_state (range_with_len 0 a)

  -- line l of place b
  abbrev pub line_at : ℕ → ℕ → List Label
  line_at b l = labels_in (slice_get (label_lines places b) l)

  -- the graph that this line calls behind an output
  abbrev pub called_at : ℕ → ℕ → Option ℕ
  called_at b l = called_behind (place_output places b) (line_at b l)

  -- the labels of the edges of line l of place b
  abbrev pub labels_at : ℕ → ℕ → List Label
  labels_at b l = edge_labels (called_at b l) (line_at b l)

  -- a line has a chain state before each of these labels but the first
  abbrev pub chain_len : ℕ → ℕ → ℕ
  chain_len b l = length (labels_at b l) - 1

  -- how many chain states the lines of a place have
  abbrev pub chains_len : ℕ → ℕ
  chains_len b = sum_by (chain_len b) (range_with_len 0 (length (label_lines places b)))

  -- the number of the first chain state of place b: those of chains follow those of places
  abbrev pub chain_start : ℕ → ℕ
  chain_start b = number (length places) + sum_by chains_len (range_with_len 0 b)

  -- the number of the first chain state of line l of place b
  abbrev pub first_chain : ℕ → ℕ → ℕ
  first_chain b l = chain_start b + sum_by (chain_len b) (range_with_len 0 l)

  -- a number for each place
  abbrev pub table_of : (ℕ → ℕ) → List ℕ
  table_of of_place = map of_place (range_with_len 0 (length places))

  -- label k of line l of place b leads to the chain state after it, the last label to the place
  abbrev pub target_of : ℕ → ℕ → ℕ → ℕ
  target_of b l k =
      cond (ltb (k + 1) (length (labels_at b l))) (first_chain b l + k) (number b)

  -- what is put out before label k of a line of place b: before the first, what the place puts out
  abbrev pub output_before : ℕ → ℕ → List Piece
  output_before b zero = place_output places b
  output_before b (suc k) = []

  -- the edge of label k of line l of place b
  abbrev pub edge_of : ℕ → ℕ → ℕ → Edge
  edge_of b l k = record {
    label = get_or (labels_at b l) k Empty;
    output = output_before b k;
    target = target_of b l k;
  }

  -- the edges from another place to place b: the first label of each line
  abbrev pub edges_to : ℕ → List Edge
  edges_to b = map (λ l. edge_of b l 0) (range_with_len 0 (length (label_lines places b)))

  -- the state of a place is final where place 1 is a target
  abbrev pub place_state : ℕ → State
  place_state a = record {
    is_final = list_any (λ b. nat_eq b 1) (place_targets places a);
    edges = flat_map edges_to (place_targets places a);
  }

  -- chain state k of a line stands before label k + 1
  abbrev pub chain_state : ℕ → ℕ → ℕ → State
  chain_state b l k = record { is_final = false; edges = edge_of b l (k + 1) ∷ [] }

  -- what a function of place, line and label gives along a line
  abbrev pub along_line : {A : Type 0} → (ℕ → ℕ → ℕ → A) → ℕ → ℕ → List A
  along_line of_chain b l = map (of_chain b l) (range_with_len 0 (chain_len b l))

  -- the same along all lines of a place
  abbrev pub along_lines : {A : Type 0} → (ℕ → ℕ → ℕ → A) → ℕ → List A
  along_lines of_chain b =
      flat_map (along_line of_chain b) (range_with_len 0 (length (label_lines places b)))

  -- one item where the place has a state
  abbrev pub at_place : {A : Type 0} → (ℕ → A) → ℕ → List A
  at_place of_place a = cond (has_state a) (of_place a ∷ []) []

  -- an item for each state: for those of places, then for those of chains, by place, line and label
  abbrev pub by_state : {A : Type 0} → (ℕ → A) → (ℕ → ℕ → ℕ → A) → List A
  by_state of_place of_chain =
      flat_map (at_place of_place) (range_with_len 0 (length places))
      ++ flat_map (along_lines of_chain) (range_with_len 0 (length places))

  -- the states of a graph
  abbrev pub states_of : List State
  states_of = by_state place_state chain_state

  -- Places of which states can be made. Place 0 is reached, targets are there, places without a
  -- state have no lines, each line is one, and few enough states come of them to number
  -- them.
  pub record AreFit : Type 0 where
    pub start : is_reached places 0 ≡ true
    pub targets : (a b : ℕ) → Contains (place_targets places a) b → b < length places
    pub stateless : (b : ℕ) → has_state b ≡ false → label_lines places b ≡ []
    pub lines : (b : ℕ) (line : List Label) → Contains (label_lines places b) line → IsLine line
    pub few : sum_by place_size places < 4294967296
