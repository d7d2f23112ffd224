-- Which graphs of states the text of a compiled grammar says, and why it is refused. The manual, on
-- .fst2 files. Public: the crate's public contracts speak of it.
use Rattle.std.specs.Prelude.{◌≡◌, ◌⊎◌, ℕ, zero, suc, ◌<◌, ◌≤◌, Bool, true, false, List, [], Some, length, slice_get}
use Rattle.std.specs.List.{AllZip}
use Rattle.ux_grf.specs.declared.item.Piece.{Piece}
use Rattle.ux_net.specs.declared.label.Label.{Label}
use Rattle.ux_net.specs.declared.label.Label.TheVariants as labels
use Rattle.ux_net.specs.declared.state_graph.StateGraph.{StateGraph}
use Rattle.ux_net.specs.StateGraphs.{AreInsideStates}
use Rattle.ux_fst2_file.specs.Files.{Says}
use Rattle.ux_fst2_file.specs.Labels.{LabelsFit, StopsAtLabel}
use Rattle.ux_fst2_file.specs.Refusals as lines
use Rattle.ux_fst2_file.specs.declared.error.Fst2Error.TheVariants as file_error
use Rattle.ux_fst2_file.specs.declared.file.Fst2Label.{Fst2Label}
use Rattle.ux_fst2_file.specs.declared.file.Fst2Label.TheVariants.{Tag, Call}
use Rattle.ux_fst2_file.specs.declared.file.Fst2File.{Fst2File}
use Rattle.ux_fst2.specs.Tags.{EMPTY_TAG, IsTag}
use Rattle.ux_fst2.specs.Files.{IsGraphBy}
use Rattle.ux_fst2.specs.declared.error.Fst2Error.{Fst2Error}
use Rattle.ux_fst2.specs.declared.error.Fst2Error.TheVariants.{BadCount, BadLine, BadTag, BadLabel, NoMemory}

-- the text says some label and output
abbrev pub SaysLabel : List ℕ → Type 0
SaysLabel text = (label : Label) × (output : List Piece) × IsTag text label output

-- the tag of this number is as it must be: tag 0 is that of the empty word
abbrev pub IsGoodTag : (n : ℕ) → (text : List ℕ) → Type 0
IsGoodTag zero text = text ≡ EMPTY_TAG
IsGoodTag (suc n) text = SaysLabel text

-- the first tags, so many, are as they must be
abbrev pub AreGoodBefore : (n : ℕ) → (tags : List (List ℕ)) → Type 0
AreGoodBefore n tags = (k : ℕ) (text : List ℕ) → k < n → slice_get tags k ≡ Some text →
    IsGoodTag k text

-- tag 0 is there, each tag is as it must be, and so is the last `f`
pub record AreTagsWhole (tags : List (List ℕ)) (is_ended : Bool) : Type 0 where
  pub some : 0 < length tags
  pub good : AreGoodBefore (length tags) tags
  pub ended : is_ended ≡ true

-- the tag of this number isn't as it must be; where all are, no tag is there, or the last `f` isn't
abbrev pub IsBadTag : (tags : List (List ℕ)) → (is_ended : Bool) → (n : ℕ) → Type 0
IsBadTag tags is_ended n =
    ((text : List ℕ) × (slice_get tags n ≡ Some text) × (IsGoodTag n text → ⊥))
    ⊎ ((n ≡ length tags) × ((n ≡ 0) ⊎ (is_ended ≡ false)))

-- this is the first bad tag
pub record StopsAtTag (tags : List (List ℕ)) (is_ended : Bool) (n : ℕ) : Type 0 where
  pub before : AreGoodBefore n tags
  pub bad : IsBadTag tags is_ended n

-- the label and the output that a number of a file bears
abbrev pub IsSaidBy : (tags : List (List ℕ)) → Fst2Label → Label → List Piece → Type 0
IsSaidBy tags (Call graph) label output = (label ≡ labels.Call graph) × (output ≡ [])
IsSaidBy tags (Tag tag) label output =
    (text : List ℕ) × (slice_get tags tag ≡ Some text) × IsTag text label output

-- the text says these graphs: their names and their states, in order
pub record SaysGraphs (text : List ℕ) (graphs : List StateGraph) : Type 0 where
  pub file : Fst2File
  pub says : Says text file true
  pub tags : AreTagsWhole file.tags true
  pub fit : LabelsFit file
  pub are : AllZip (IsGraphBy (IsSaidBy file.tags)) file.graphs graphs

-- the lines of the text are good, and this is its first bad tag
pub record HasBadTag (text : List ℕ) (n : ℕ) : Type 0 where
  pub file : Fst2File
  pub is_ended : Bool
  pub says : Says text file is_ended
  pub stops : StopsAtTag file.tags is_ended n

-- the lines and the tags of the text are good, and this is the first line with a bad label
pub record HasBadLabel (text : List ℕ) (line : ℕ) : Type 0 where
  pub file : Fst2File
  pub says : Says text file true
  pub tags : AreTagsWhole file.tags true
  pub stops : StopsAtLabel file line

-- why the text is refused; lines count from 1, and tags from 0
abbrev pub Refuses : (text : List ℕ) → Fst2Error → Type 0
Refuses text BadCount = lines.Refuses text file_error.BadCount
Refuses text (BadLine line) = lines.Refuses text (file_error.BadLine line)
Refuses text (BadTag n) = HasBadTag text n
Refuses text (BadLabel line) = HasBadLabel text line
Refuses text NoMemory = ⊥

-- graphs of states that a net can be made of: there are not too many, and edges stay inside
pub record AreStateGraphs (graphs : List StateGraph) : Type 0 where
  pub some : 1 ≤ length graphs
  pub few : length graphs ≤ 65535
  pub inside : AreInsideStates graphs
