-- What the text of a compiled grammar says, line by line: the number of graphs, the graphs, and the
-- tags as texts. Public: the crate's public contracts speak of it.
use Rattle.std.specs.Prelude.{◌≡◌, ℕ, ◌+◌, ◌<◌, ◌^◌, Bool, true, false, List, [], ◌∷◌, ◌++◌, Contains, length, sum_by}
use Rattle.ux_base.specs.Lines.{lines_of}
use Rattle.ux_fst2_file.specs.Lines.{IsCount, IsHead, IsState, IsEnd}
use Rattle.ux_fst2_file.specs.declared.file.Fst2State.{Fst2State}
use Rattle.ux_fst2_file.specs.declared.file.Fst2Graph.{Fst2Graph}
use Rattle.ux_fst2_file.specs.declared.file.Fst2File.{Fst2File}

-- behind so many states the line ends the graph, which has one at least
abbrev pub EndsGraph : (before : ℕ) → (line : List ℕ) → Type 0
EndsGraph before line = IsEnd line × (0 < before)

-- behind so many states the line is one more, and 32 bits count them
abbrev pub AddsState : (before : ℕ) → (line : List ℕ) → Fst2State → Type 0
AddsState before line state = IsState line state × (before + 1 < 2 ^ 32)

-- behind so many states of a graph the lines begin with its other ones, and its `f`
pub data BeginStates : (before : ℕ) → (lines : List (List ℕ)) → List Fst2State →
    (rest : List (List ℕ)) → Type 0 where
  end_line : (before : ℕ) (line : List ℕ) (rest : List (List ℕ)) → EndsGraph before line →
      BeginStates before (line ∷ rest) [] rest
  state_line : (before : ℕ) (line : List ℕ) (lines rest : List (List ℕ)) (state : Fst2State)
      (states : List Fst2State) → AddsState before line state →
      BeginStates (before + 1) lines states rest →
      BeginStates before (line ∷ lines) (state ∷ states) rest

-- the line begins the next graph, whose name is none of these
abbrev pub BeginsGraph : (names : List (List ℕ)) → (line name : List ℕ) → Type 0
BeginsGraph names line name = IsHead (length names + 1) line name × (Contains names name → ⊥)

-- behind the graphs of these names the lines begin with further graphs
pub data BeginGraphs : (names lines : List (List ℕ)) → List Fst2Graph →
    (rest : List (List ℕ)) → Type 0 where
  no_graph : (names rest : List (List ℕ)) → BeginGraphs names rest [] rest
  graph_then : (names : List (List ℕ)) (line : List ℕ) (lines mid rest : List (List ℕ))
      (graph : Fst2Graph) (graphs : List Fst2Graph) → BeginsGraph names line graph.name →
      BeginStates 0 lines graph.states mid →
      BeginGraphs (names ++ graph.name ∷ []) mid graphs rest →
      BeginGraphs names (line ∷ lines) (graph ∷ graphs) rest

-- these are the tags, each a line, up to the first line `f`, where there is one
pub data AreTags : (lines tags : List (List ℕ)) → (is_ended : Bool) → Type 0 where
  no_line : AreTags [] [] false
  last_line : (line : List ℕ) (rest : List (List ℕ)) → IsEnd line → AreTags (line ∷ rest) [] true
  tag_line : (line : List ℕ) (lines tags : List (List ℕ)) (is_ended : Bool) → (IsEnd line → ⊥) →
      AreTags lines tags is_ended → AreTags (line ∷ lines) (line ∷ tags) is_ended

-- the first line has this number of graphs, and these lines are behind it
pub record HasCount (text : List ℕ) (count : ℕ) (lines : List (List ℕ)) : Type 0 where
  pub first : List ℕ
  pub whole : lines_of text ≡ first ∷ lines
  pub is_count : IsCount first count

-- the graphs are as wanted, and these lines are behind them
pub record HasGraphs (text : List ℕ) (graphs : List Fst2Graph) (rest : List (List ℕ)) :
    Type 0 where
  pub lines : List (List ℕ)
  pub has_count : HasCount text (length graphs) lines
  pub are_graphs : BeginGraphs [] lines graphs rest

-- the text says these graphs and tags, whatever its labels and tags are, and whether the last `f`
-- is there
pub record Says (text : List ℕ) (file : Fst2File) (is_ended : Bool) : Type 0 where
  pub rest : List (List ℕ)
  pub graphs : HasGraphs text file.graphs rest
  pub tags : AreTags rest file.tags is_ended

-- how many lines the graphs have: each a first one, its states, and its `f`
abbrev pub line_count : List Fst2Graph → ℕ
line_count graphs = sum_by (λ (graph : Fst2Graph). length graph.states + 2) graphs
