-- Which numbers of a compiled grammar name something, and the first line where one doesn't. The
-- manual, on .fst2 files. Public: the crate's public contracts speak of it.
use Rattle.std.specs.Prelude.{ℕ, ◌+◌, ◌<◌, ◌≤◌, min, List, ◌∷◌, All, length}
use Rattle.ux_fst2_file.specs.Fields.{MOST}
use Rattle.ux_fst2_file.specs.declared.file.Fst2Label.{Fst2Label}
use Rattle.ux_fst2_file.specs.declared.file.Fst2Label.TheVariants.{Tag, Call}
use Rattle.ux_fst2_file.specs.declared.file.Fst2Edge.{Fst2Edge}
use Rattle.ux_fst2_file.specs.declared.file.Fst2State.{Fst2State}
use Rattle.ux_fst2_file.specs.declared.file.Fst2Graph.{Fst2Graph}
use Rattle.ux_fst2_file.specs.declared.file.Fst2File.{Fst2File}
use Rattle.ux_fst2_file.specs.declared.labels.Limits.{Limits}

-- a label is that of a tag or of a graph
abbrev pub FitsLabel : Limits → Fst2Label → Type 0
FitsLabel limits (Tag tag) = tag < limits.tags
FitsLabel limits (Call graph) = (0 < graph) × (graph ≤ limits.graphs)

-- and the target is a state
abbrev pub FitsEdge : Limits → Fst2Edge → Type 0
FitsEdge limits edge = FitsLabel limits edge.label × (edge.target < limits.states)

abbrev pub FitsState : Limits → Fst2State → Type 0
FitsState limits state = All (FitsEdge limits) state.edges

-- what the edges of a graph may name; the greatest number of 32 bits names no tag
abbrev pub limits_of : Fst2File → Fst2Graph → Limits
limits_of file graph = record {
  tags = min (length file.tags) MOST;
  graphs = length file.graphs;
  states = length graph.states;
}

abbrev pub FitsGraph : Fst2File → Fst2Graph → Type 0
FitsGraph file graph = All (FitsState (limits_of file graph)) graph.states

-- each label and each target of the file names something
abbrev pub LabelsFit : Fst2File → Type 0
LabelsFit file = All (FitsGraph file) file.graphs

-- of states on lines from this number on, this is the first line with an edge that doesn't fit
pub data StopLabels (limits : Limits) : (number : ℕ) → List Fst2State → (stop : ℕ) → Type 0 where
  this_state : (number : ℕ) (state : Fst2State) (later : List Fst2State) →
      (FitsState limits state → ⊥) → StopLabels limits number (state ∷ later) number
  later_state : (number stop : ℕ) (state : Fst2State) (later : List Fst2State) →
      FitsState limits state → StopLabels limits (number + 1) later stop →
      StopLabels limits number (state ∷ later) stop

-- the state at this place of the list, from 0, is the first with an edge that doesn't fit, wherever
-- the lines begin
abbrev pub IsBadState : Limits → List Fst2State → (place : ℕ) → Type 0
IsBadState limits states place = (number : ℕ) → StopLabels limits number states (number + place)

-- and of graphs, of which the first begins at this line
pub data StopGraphLabels (file : Fst2File) : (number : ℕ) → List Fst2Graph → (stop : ℕ) →
    Type 0 where
  this_graph : (number stop : ℕ) (graph : Fst2Graph) (later : List Fst2Graph) →
      StopLabels (limits_of file graph) (number + 1) graph.states stop →
      StopGraphLabels file number (graph ∷ later) stop
  later_graph : (number stop : ℕ) (graph : Fst2Graph) (later : List Fst2Graph) →
      FitsGraph file graph →
      StopGraphLabels file (number + (length graph.states + 2)) later stop →
      StopGraphLabels file number (graph ∷ later) stop

-- this is the first line of the file with an edge that doesn't fit, where line 2 begins graph 1
abbrev pub StopsAtLabel : Fst2File → (line : ℕ) → Type 0
StopsAtLabel file line = StopGraphLabels file 2 file.graphs line
