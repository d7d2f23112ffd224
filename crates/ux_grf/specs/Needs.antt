-- The names of the graphs that a graph calls. Public: the crate's public contracts speak of it.
use Rattle.std.specs.Prelude.{ℕ, List, [], ◌∷◌, map}
use Rattle.std.specs.List.{flat_map}
use Rattle.indexmap.specs.IndexSet.{IndexSet}
use denote.Ref.{Bor}
use Rattle.ux_grf.specs.declared.graph.Graph.{Graph}
use Rattle.ux_grf.specs.declared.graph.GrfBox.{GrfBox}
use Rattle.ux_grf.specs.declared.item.Item.{Item}
use Rattle.ux_grf.specs.declared.item.Item.TheVariants.{Literal, Quoted, Mask, Brace, NoSpace, Empty, Call, Begin, End, Positive, Negative, ContextEnd, Cut}

-- the name that an item calls, if it is a call
abbrev pub calls_of_item : Item → List (List ℕ)
calls_of_item (Literal text) = []
calls_of_item (Quoted text) = []
calls_of_item (Mask text) = []
calls_of_item (Brace text) = []
calls_of_item NoSpace = []
calls_of_item Empty = []
calls_of_item (Call name) = name ∷ []
calls_of_item (Begin name) = []
calls_of_item (End name) = []
calls_of_item Positive = []
calls_of_item Negative = []
calls_of_item ContextEnd = []
calls_of_item Cut = []

abbrev pub calls_of_line : List Item → List (List ℕ)
calls_of_line line = flat_map calls_of_item line

abbrev pub calls_of_box : GrfBox → List (List ℕ)
calls_of_box b = flat_map calls_of_line b.lines

-- the names called in a graph, in order of box and line; boxes that aren't reached have no lines
abbrev pub calls_of : Graph → List (List ℕ)
calls_of graph = flat_map calls_of_box graph.boxes

-- the names in a set, in order
abbrev pub names_in : {S : Type 0} → IndexSet (Bor (List ℕ)) S → List (List ℕ)
names_in set = map (λ name. name.now) set.keys
