-- What holds of every graph that is read, and what those who use a graph may ask. Public: the
-- crate's public contracts speak of it.
use Rattle.std.specs.Prelude.{◌≡◌, ◌≢◌, ℕ, ◌<◌, ◌≤◌, ◌↔◌, ◌⊎◌, Bool, true, false, List, [], length, map, get_or, All, AllPairs}
use Rattle.ux_grf.specs.declared.graph.Graph.{Graph}
use Rattle.ux_grf.specs.declared.graph.GrfBox.{GrfBox}
use Rattle.ux_grf.specs.declared.item.Item.{Item}
use Rattle.ux_grf.specs.declared.item.Item.TheVariants.{Literal, Quoted, Mask, Brace, NoSpace, Empty, Call, Begin, End, Positive, Negative, ContextEnd, Cut}
use Rattle.ux_grf.specs.Reached.{ways_of, Reached}
use Rattle.ux_grf.specs.Content.{is_read}

abbrev pub box_of_graph : Graph → ℕ → GrfBox
box_of_graph graph node =
    get_or graph.boxes node (record { reached = false; lines = []; output = []; targets = [] })

abbrev pub ways_of_graph : Graph → List (List ℕ)
ways_of_graph graph = ways_of (map (λ (b : GrfBox). b.targets) graph.boxes)

-- no text is empty
abbrev pub HasText : Item → Type 0
HasText (Literal text) = 0 < length text
HasText (Quoted text) = 0 < length text
HasText (Mask text) = 0 < length text
HasText (Brace text) = 0 < length text
HasText NoSpace = Unit {0}
HasText Empty = Unit {0}
HasText (Call name) = 0 < length name
HasText (Begin name) = 0 < length name
HasText (End name) = 0 < length name
HasText Positive = Unit {0}
HasText Negative = Unit {0}
HasText ContextEnd = Unit {0}
HasText Cut = Unit {0}

-- the item may have others beside it in its line: what calls a graph, bounds a variable or a context,
-- or cuts stands alone
abbrev pub may_be_beside : Item → Bool
may_be_beside (Literal text) = true
may_be_beside (Quoted text) = true
may_be_beside (Mask text) = true
may_be_beside (Brace text) = true
may_be_beside NoSpace = true
may_be_beside Empty = true
may_be_beside (Call name) = false
may_be_beside (Begin name) = false
may_be_beside (End name) = false
may_be_beside Positive = false
may_be_beside Negative = false
may_be_beside ContextEnd = false
may_be_beside Cut = false

-- the line is one item, or has only items that may have others beside them
abbrev pub IsShared : List Item → Type 0
IsShared line = (length line ≡ 1) ⊎ All (λ (item : Item). may_be_beside item ≡ true) line

-- a line has an item, no text is empty, and what has to stands alone
pub record IsFilled (line : List Item) : Type 0 where
  pub some : 0 < length line
  pub texts : All HasText line
  pub shared : IsShared line

-- a box of a graph with so many boxes: only boxes that are reached, other than the start and the
-- end, have lines
pub record IsWellFormedBox (count node : ℕ) (b : GrfBox) : Type 0 where
  pub inside : All (λ t. t < count) b.targets
  pub once : AllPairs (λ s t. s ≢ t) b.targets
  pub bare : is_read node b.reached ≡ false → (b.lines ≡ []) × (b.output ≡ [])
  pub lined : is_read node b.reached ≡ true → 0 < length b.lines
  pub filled : All IsFilled b.lines

pub record IsWellFormed (graph : Graph) : Type 0 where
  pub two : 2 ≤ length graph.boxes
  pub most : length graph.boxes ≤ 65535
  pub boxes : (node : ℕ) → node < length graph.boxes →
      IsWellFormedBox (length graph.boxes) node (box_of_graph graph node)
  pub reached : (node : ℕ) → node < length graph.boxes →
      ((box_of_graph graph node).reached ≡ true) ↔ Reached (ways_of_graph graph) node
