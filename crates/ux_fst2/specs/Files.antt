-- The file of a net: its graphs with their states, and its tags. The manual, on .fst2 files. Public:
-- the crate's public contracts speak of it.
use Rattle.std.specs.Prelude.{◌≡◌, ℕ, ◌<◌, List, [], ◌∷◌, Option, Some, None, map, slice_get}
use Rattle.std.specs.List.{AllZip, flat_map}
use Rattle.ux_base.specs.Distinct.{each_once}
use Rattle.ux_grf.specs.declared.item.Piece.{Piece}
use Rattle.ux_net.specs.declared.label.Label.{Label}
use Rattle.ux_net.specs.declared.label.Label.TheVariants.{Empty, CaseFolded, CaseExact, Mask, Brace, Space, NoSpace, Begin, End, Positive, Negative, ContextEnd, Cut, Call}
use Rattle.ux_net.specs.declared.net_graph.NetGraph.{NetGraph}
use Rattle.ux_net.specs.declared.state.Edge.{Edge}
use Rattle.ux_net.specs.declared.state.State.{State}
use Rattle.ux_net.specs.declared.state_graph.StateGraph.{StateGraph}
use Rattle.ux_net.specs.Whole.{told_graph}
use Rattle.ux_fst2_file.specs.Fields.{MOST}
use Rattle.ux_fst2_file.specs.Printed.{file_text}
use Rattle.ux_fst2_file.specs.declared.file.Fst2Label.{Fst2Label}
use Rattle.ux_fst2_file.specs.declared.file.Fst2Label.TheVariants as file
use Rattle.ux_fst2_file.specs.declared.file.Fst2Edge.{Fst2Edge}
use Rattle.ux_fst2_file.specs.declared.file.Fst2State.{Fst2State}
use Rattle.ux_fst2_file.specs.declared.file.Fst2Graph.{Fst2Graph}
use Rattle.ux_fst2_file.specs.declared.file.Fst2File.{Fst2File}
use Rattle.ux_fst2.specs.Tags.{EMPTY_TAG, tag_text}

-- the graph that a label calls, if it is a call
abbrev pub called : Label → Option ℕ
called Empty = None
called (CaseFolded text) = None
called (CaseExact text) = None
called (Mask mask) = None
called (Brace text) = None
called Space = None
called NoSpace = None
called (Begin name) = None
called (End name) = None
called Positive = None
called Negative = None
called ContextEnd = None
called Cut = None
called (Call graph) = Some graph

-- the tag of a label that isn't a call
abbrev pub tag_unless : (calls : Option ℕ) → Label → List Piece → List (List ℕ)
tag_unless None label output = tag_text label output ∷ []
tag_unless (Some graph) label output = []

-- the tag of an edge, unless it calls a graph
abbrev pub tags_of_edge : Edge → List (List ℕ)
tags_of_edge edge = tag_unless (called edge.label) edge.label edge.output

abbrev pub tags_of_state : State → List (List ℕ)
tags_of_state state = flat_map tags_of_edge state.edges

abbrev pub tags_of_graph : StateGraph → List (List ℕ)
tags_of_graph graph = flat_map tags_of_state graph.states

-- the tags of graphs by first use, in order of graph, state and edge, each once, behind tag 0
abbrev pub tags_of : List StateGraph → List (List ℕ)
tags_of graphs = each_once (EMPTY_TAG ∷ flat_map tags_of_graph graphs)

module _ (Bears : Fst2Label → Label → List Piece → Type 0) where
  -- an edge of a file is this edge of a graph, where its label bears this label and output
  pub record IsEdgeBy (edge : Fst2Edge) (told : Edge) : Type 0 where
    pub label : Bears edge.label told.label told.output
    pub target : edge.target ≡ told.target

  pub record IsStateBy (state : Fst2State) (told : State) : Type 0 where
    pub ends : state.is_final ≡ told.is_final
    pub edges : AllZip IsEdgeBy state.edges told.edges

  -- and a graph of a file is this graph
  pub record IsGraphBy (graph : Fst2Graph) (told : StateGraph) : Type 0 where
    pub named : graph.name ≡ told.name
    pub are : AllZip IsStateBy graph.states told.states

-- what is printed for a label and its output: a call's graph, or the number of the tag, which is
-- below the greatest of 32 bits
abbrev pub IsPrintedBy : (tags : List (List ℕ)) → Fst2Label → Label → List Piece → Type 0
IsPrintedBy tags (file.Call graph) label output = called label ≡ Some graph
IsPrintedBy tags (file.Tag tag) label output =
    (called label ≡ None) × (slice_get tags tag ≡ Some (tag_text label output)) × (tag < MOST)

-- the file of graphs: all of them with their states, in order, and their tags
pub record IsFileOf (graphs : List StateGraph) (file : Fst2File) : Type 0 where
  pub tagged : file.tags ≡ tags_of graphs
  pub are : AllZip (IsGraphBy (IsPrintedBy file.tags)) file.graphs graphs

-- the text is that of the net's file
pub record IsTextOf (net : List NetGraph) (text : List ℕ) : Type 0 where
  pub file : Fst2File
  pub is_file : IsFileOf (map told_graph net) file
  pub is_text : text ≡ file_text file
