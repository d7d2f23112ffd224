-- What the steps of the reader give. Inner: the crate's own functions alone speak of it.
use Rattle.std.specs.Prelude.{◌≡◌, ◌<◌, ◌+◌, ◌^◌, ℕ, List, [], ◌∷◌, length}
use Rattle.ux_fst2_file.specs.Fields.{IsNumber}
use Rattle.ux_fst2_file.specs.Lines.{AreEdges, IsCount, IsLabel}
use Rattle.ux_fst2_file.specs.Files.{BeginStates, BeginsGraph, BeginGraphs, line_count}
use Rattle.ux_fst2_file.specs.Refusals.{StopGraphs}
use Rattle.ux_fst2_file.specs.declared.file.Fst2Edge.{Fst2Edge}
use Rattle.ux_fst2_file.specs.declared.file.Fst2State.{Fst2State}
use Rattle.ux_fst2_file.specs.declared.file.Fst2Graph.{Fst2Graph}
use Rattle.ux_fst2_file.specs.declared.cursor.Cursor.{Cursor}
use Rattle.ux_fst2_file.specs.declared.error.Fst2Error.{Fst2Error}
use Rattle.ux_fst2_file.specs.declared.error.Fst2Error.TheVariants.{BadLine}

-- a label and a target are this edge
abbrev pub IsEdge : (label target : List ℕ) → Fst2Edge → Type 0
IsEdge label target edge = IsLabel label edge.label × IsNumber target edge.target

-- the fields are these edges, no more than 32 bits count
abbrev pub AreFewEdges : (fields : List (List ℕ)) → List Fst2Edge → Type 0
AreFewEdges fields edges = AreEdges fields edges × (length edges < 2 ^ 32)

-- the first line was read
pub record IsFirst (old new : List (List ℕ)) (count : ℕ) : Type 0 where
  pub line : List ℕ
  pub whole : old ≡ line ∷ new
  pub is_count : IsCount line count

-- these states and their `f` were read
pub record IsNextStates (old new : Cursor) (states : List Fst2State) : Type 0 where
  pub begin : BeginStates 0 old.lines states new.lines
  pub count : new.number ≡ old.number + (length states + 1)

-- the next graph was read
pub record IsNextGraph (names : List (List ℕ)) (old new : Cursor) (graph : Fst2Graph) :
    Type 0 where
  pub line : List ℕ
  pub lines : List (List ℕ)
  pub whole : old.lines ≡ line ∷ lines
  pub head : BeginsGraph names line graph.name
  pub begin : BeginStates 0 lines graph.states new.lines
  pub count : new.number ≡ old.number + (length graph.states + 2)

-- this is the first line that is missing or is none of the next graph's, where one is wanted
abbrev pub StopsNextGraph : (names : List (List ℕ)) → (number : ℕ) → (lines : List (List ℕ)) →
    (line : ℕ) → Type 0
StopsNextGraph names number lines line =
    (wanted : ℕ) → 0 < wanted → StopGraphs wanted names number lines line

-- so many graphs were read
pub record BeginSoMany (count : ℕ) (old new : Cursor) (graphs : List Fst2Graph) : Type 0 where
  pub many : length graphs ≡ count
  pub begin : BeginGraphs [] old.lines graphs new.lines
  pub counted : new.number ≡ old.number + line_count graphs

-- the error names a line at which reading stops
abbrev pub StopsAtLine : (Stops : ℕ → Type 0) → Fst2Error → Type 0
StopsAtLine Stops error = (line : ℕ) × (error ≡ BadLine line) × Stops line
