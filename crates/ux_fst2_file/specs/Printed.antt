-- How a compiled grammar is printed, and which ones can be read back. Public: the crate's public
-- contracts speak of it.
use Rattle.std.specs.Prelude.{◌≡◌, ◌≢◌, ℕ, zero, suc, ◌+◌, ◌-◌, ◌<◌, ◌≤◌, ◌^◌, ◌==◌, true, false, List, [], ◌∷◌, ◌++◌, All, AllPairs, decimal, length, map, slice_index}
use Rattle.std.specs.List.{flat_map, list_any}
use Rattle.ux_base.specs.Lines.{LINE_FEED, CARRIAGE_RETURN}
use Rattle.ux_fst2_file.specs.Fields.{SPACE, MOST, begins_with_field, without_end_spaces}
use Rattle.ux_fst2_file.specs.Lines.{MINUS, END, sign_of, IsEnd}
use Rattle.ux_fst2_file.specs.declared.file.Fst2Label.{Fst2Label}
use Rattle.ux_fst2_file.specs.declared.file.Fst2Label.TheVariants.{Tag, Call}
use Rattle.ux_fst2_file.specs.declared.file.Fst2Edge.{Fst2Edge}
use Rattle.ux_fst2_file.specs.declared.file.Fst2State.{Fst2State}
use Rattle.ux_fst2_file.specs.declared.file.Fst2Graph.{Fst2Graph}
use Rattle.ux_fst2_file.specs.declared.file.Fst2File.{Fst2File}

-- so many zeros
abbrev pub zeros : ℕ → List ℕ
zeros zero = []
zeros (suc n) = 48 ∷ zeros n

-- the number in ten digits
abbrev pub ten_digits : ℕ → List ℕ
ten_digits n = zeros (10 - length (decimal n)) ++ decimal n

abbrev pub label_text : Fst2Label → List ℕ
label_text (Tag tag) = decimal tag
label_text (Call graph) = MINUS ∷ decimal graph

-- label and target, a space behind each
abbrev pub edge_text : Fst2Edge → List ℕ
edge_text edge = label_text edge.label ++ (SPACE ∷ (decimal edge.target ++ SPACE ∷ []))

abbrev pub state_text : Fst2State → List ℕ
state_text state = sign_of state.is_final ++ (SPACE ∷ flat_map edge_text state.edges)

abbrev pub head_text : (number : ℕ) → (name : List ℕ) → List ℕ
head_text number name = MINUS ∷ (decimal number ++ (SPACE ∷ name))

-- the lines of the graph of this number
abbrev pub graph_lines : (number : ℕ) → Fst2Graph → List (List ℕ)
graph_lines number graph =
    head_text number graph.name ∷ (map state_text graph.states ++ (END ++ SPACE ∷ []) ∷ [])

-- the lines of the graphs, of which the first has this number
abbrev pub graphs_lines : (number : ℕ) → List Fst2Graph → List (List ℕ)
graphs_lines number [] = []
graphs_lines number (graph ∷ graphs) = graph_lines number graph ++ graphs_lines (number + 1) graphs

abbrev pub ended : List ℕ → List ℕ
ended line = line ++ LINE_FEED ∷ []

-- the line of a state, with its end
abbrev pub state_line_text : Fst2State → List ℕ
state_line_text state = ended (state_text state)

abbrev pub file_lines : Fst2File → List (List ℕ)
file_lines file =
    ten_digits (length file.graphs) ∷ (graphs_lines 1 file.graphs ++ (file.tags ++ END ∷ []))

abbrev pub file_text : Fst2File → List ℕ
file_text file = flat_map ended (file_lines file)

-- the text stands on a line: no line feed is in it, and no carriage return ends it
pub record IsLineText (text : List ℕ) : Type 0 where
  pub no_feed : list_any (λ b. b == LINE_FEED) text ≡ false
  pub no_return : slice_index text (length text - 1) ≢ CARRIAGE_RETURN

-- a name isn't empty and neither begins nor ends with a space
pub record IsName (name : List ℕ) : Type 0 where
  pub front : begins_with_field name ≡ true
  pub back : without_end_spaces name ≡ name
  pub line : IsLineText name

-- the number of a label has 32 bits
abbrev pub IsSmallLabel : Fst2Label → Type 0
IsSmallLabel (Tag tag) = tag ≤ MOST
IsSmallLabel (Call graph) = graph ≤ MOST

abbrev pub IsSmallEdge : Fst2Edge → Type 0
IsSmallEdge edge = IsSmallLabel edge.label × (edge.target ≤ MOST)

-- a state can be printed
pub record IsSpellableState (state : Fst2State) : Type 0 where
  pub few : length state.edges < 2 ^ 32
  pub small : All IsSmallEdge state.edges

-- a graph can be printed
pub record IsSpellableGraph (graph : Fst2Graph) : Type 0 where
  pub name : IsName graph.name
  pub some : 0 < length graph.states
  pub few : length graph.states < 2 ^ 32
  pub states : All IsSpellableState graph.states

-- a tag stands on a line and isn't taken for the last one
pub record IsSpellableTag (tag : List ℕ) : Type 0 where
  pub other : IsEnd tag → ⊥
  pub line : IsLineText tag

-- a file can be printed, and reads back
pub record IsSpellable (file : Fst2File) : Type 0 where
  pub some : 1 ≤ length file.graphs
  pub fits : length file.graphs ≤ 65535
  pub graphs : All IsSpellableGraph file.graphs
  pub names : AllPairs (λ (one other : Fst2Graph). one.name ≢ other.name) file.graphs
  pub tags : All IsSpellableTag file.tags
