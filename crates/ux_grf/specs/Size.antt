-- How large a graph is: its boxes, lines and items, and the bytes of the items' texts. Public: the
-- crate's public contracts speak of it.
use Rattle.std.specs.Prelude.{ℕ, ◌+◌, List, [], length, sum_by}
use Rattle.ux_grf.specs.declared.graph.Graph.{Graph}
use Rattle.ux_grf.specs.declared.graph.GrfBox.{GrfBox}
use Rattle.ux_grf.specs.declared.item.Item.{Item}
use Rattle.ux_grf.specs.declared.item.Item.TheVariants.{Literal, Quoted, Mask, Brace, NoSpace, Empty, Call, Begin, End, Positive, Negative, ContextEnd, Cut}

-- the item's text, which is empty where it has none
abbrev pub text_of_item : Item → List ℕ
text_of_item (Literal text) = text
text_of_item (Quoted text) = text
text_of_item (Mask text) = text
text_of_item (Brace text) = text
text_of_item NoSpace = []
text_of_item Empty = []
text_of_item (Call name) = name
text_of_item (Begin name) = name
text_of_item (End name) = name
text_of_item Positive = []
text_of_item Negative = []
text_of_item ContextEnd = []
text_of_item Cut = []

-- an item, and the bytes of its text
abbrev pub size_of_item : Item → ℕ
size_of_item item = 1 + length (text_of_item item)

-- a line, and its items
abbrev pub size_of_line : List Item → ℕ
size_of_line line = 1 + sum_by size_of_item line

-- the lines of a box
abbrev pub size_of_box : GrfBox → ℕ
size_of_box b = sum_by size_of_line b.lines

abbrev pub size_of : Graph → ℕ
size_of graph = length graph.boxes + sum_by size_of_box graph.boxes
