-- A graph file: what it draws, and why it is refused. Public: the crate's public contracts speak
-- of it.
use Rattle.std.specs.Prelude.{◌≡◌, ℕ, ◌<◌, ◌↔◌, Bool, true, false, List, [], ◌∷◌, Option, None, Some, length, map, get_or}
use Rattle.ux_base.specs.Lines.{lines_of}
use Rattle.ux_digraph.specs.Rules.{is_marked_at}
use Rattle.ux_grf.specs.declared.graph.GraphKind.{GraphKind}
use Rattle.ux_grf.specs.declared.content.Content.{Content}
use Rattle.ux_grf.specs.declared.error.GrfError.{GrfError}
use Rattle.ux_grf.specs.declared.error.GrfError.TheVariants.{NoHeader, BadCount, BadBoxLine, BadTarget, BadContent, NoMemory}
use Rattle.ux_grf.specs.declared.graph.Graph.{Graph}
use Rattle.ux_grf.specs.declared.graph.GrfBox.{GrfBox}
use Rattle.ux_grf.specs.Header.{after_header, count_of}
use Rattle.ux_grf.specs.BoxLine.{BoxText}
use Rattle.ux_grf.specs.Boxes.{text_at, AreTexts, AreGood, RefusesBoxes}
use Rattle.ux_grf.specs.Reached.{ways_of, Reached}
use Rattle.ux_grf.specs.Content.{content_of, is_read, IsContent, IsBadAt, IsBoxOf, IsMade}
use Rattle.ux_grf.specs.WellFormed.{box_of_graph}

-- the ways from box to box
abbrev pub ways_in : List BoxText → List (List ℕ)
ways_in texts = ways_of (map (λ (t : BoxText). t.targets) texts)

-- the graph has these boxes
pub record Draws (kind : GraphKind) (texts : List BoxText) (graph : Graph) : Type 0 where
  pub len : length graph.boxes ≡ length texts
  pub reached : (node : ℕ) → node < length texts →
      ((box_of_graph graph node).reached ≡ true) ↔ Reached (ways_in texts) node
  pub boxes : (node : ℕ) → node < length texts →
      IsBoxOf kind (text_at texts node) node (box_of_graph graph node)

-- the content of the box is read: it is reached, and neither the start nor the end
pub record IsReadBox (texts : List BoxText) (node : ℕ) : Type 0 where
  pub inside : node < length texts
  pub reached : Reached (ways_in texts) node
  pub inner : 1 < node

-- the first bad content is that of this box, and bad at this place
pub record IsFirstBad (kind : GraphKind) (texts : List BoxText) (node place : ℕ) : Type 0 where
  pub box : IsReadBox texts node
  pub bad : IsBadAt kind (content_of (text_at texts node)) place
  pub first : (m : ℕ) → m < node → IsReadBox texts m →
      (read : Content) × IsContent kind (content_of (text_at texts m)) read

-- why no graph is made of these boxes
abbrev pub RefusesTexts : GraphKind → List BoxText → GrfError → Type 0
RefusesTexts kind texts NoHeader = ⊥
RefusesTexts kind texts BadCount = ⊥
RefusesTexts kind texts (BadBoxLine node) = ⊥
RefusesTexts kind texts (BadTarget node) = ⊥
RefusesTexts kind texts (BadContent node place) = IsFirstBad kind texts node place
RefusesTexts kind texts NoMemory = Unit {0}

abbrev pub box_in : List GrfBox → ℕ → GrfBox
box_in boxes node =
    get_or boxes node (record { reached = false; lines = []; output = []; targets = [] })

-- the first boxes are made of their texts and marks
abbrev pub AreMade : GraphKind → List BoxText → List Bool → List GrfBox → ℕ → Type 0
AreMade kind texts marks boxes count =
    (node : ℕ) → node < count →
    IsMade kind (text_at texts node) node (is_marked_at marks node) (box_in boxes node)

-- the first bad content, of the boxes that are marked
pub record IsBadMarked (kind : GraphKind) (texts : List BoxText) (marks : List Bool)
    (node place : ℕ) : Type 0 where
  pub inside : node < length texts
  pub read : is_read node (is_marked_at marks node) ≡ true
  pub bad : IsBadAt kind (content_of (text_at texts node)) place
  pub first : (m : ℕ) → m < node → is_read m (is_marked_at marks m) ≡ true →
      (read : Content) × IsContent kind (content_of (text_at texts m)) read

-- why no boxes are made of texts and marks
abbrev pub RefusesMarked : GraphKind → List BoxText → List Bool → GrfError → Type 0
RefusesMarked kind texts marks NoHeader = ⊥
RefusesMarked kind texts marks BadCount = ⊥
RefusesMarked kind texts marks (BadBoxLine node) = ⊥
RefusesMarked kind texts marks (BadTarget node) = ⊥
RefusesMarked kind texts marks (BadContent node place) = IsBadMarked kind texts marks node place
RefusesMarked kind texts marks NoMemory = Unit {0}

-- the number that the first of the lines tells
abbrev pub count_at : List (List ℕ) → Option ℕ
count_at [] = None
count_at (line ∷ lines) = count_of line

-- the first of the lines tells the number, and these stand after it
abbrev pub IsNextCount : (lines rest : List (List ℕ)) → ℕ → Type 0
IsNextCount lines rest count =
    (line : List ℕ) × (lines ≡ line ∷ rest) × (count_of line ≡ Some count)

-- the file has so many boxes, and these lines after their number
pub record HasBoxLines (text : List ℕ) (boxes : ℕ) (lines : List (List ℕ)) : Type 0 where
  pub first : List ℕ
  pub header : after_header (lines_of text) ≡ Some (first ∷ lines)
  pub told : count_of first ≡ Some boxes

-- the box lines of the file are good, and tell these texts
pub record HasTexts (text : List ℕ) (texts : List BoxText) : Type 0 where
  pub count : ℕ
  pub lines : List (List ℕ)
  pub has : HasBoxLines text count lines
  pub good : AreGood count lines count
  pub told : AreTexts count lines texts

-- the text of a graph file draws the graph
abbrev pub IsGraphOf : GraphKind → List ℕ → Graph → Type 0
IsGraphOf kind text graph = (texts : List BoxText) × HasTexts text texts × Draws kind texts graph

-- why the text of a graph file is refused
abbrev pub Refuses : GraphKind → List ℕ → GrfError → Type 0
Refuses kind text NoHeader = after_header (lines_of text) ≡ None
Refuses kind text BadCount =
    (lines : List (List ℕ)) × (after_header (lines_of text) ≡ Some lines) × (count_at lines ≡ None)
Refuses kind text (BadBoxLine node) =
    (count : ℕ) × (lines : List (List ℕ)) × HasBoxLines text count lines
    × RefusesBoxes count lines (BadBoxLine node)
Refuses kind text (BadTarget node) =
    (count : ℕ) × (lines : List (List ℕ)) × HasBoxLines text count lines
    × RefusesBoxes count lines (BadTarget node)
Refuses kind text (BadContent node place) =
    (texts : List BoxText) × HasTexts text texts × IsFirstBad kind texts node place
Refuses kind text NoMemory = Unit {0}
