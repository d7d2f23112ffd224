-- Why the text of a compiled grammar is refused, before its tags and labels are looked at. The
-- manual, on .fst2 files. Public: the crate's public contracts speak of it.
use Rattle.std.specs.Prelude.{ℕ, ◌+◌, ◌-◌, ◌<◌, List, [], ◌∷◌, ◌++◌, length}
use Rattle.ux_fst2_file.specs.Files.{EndsGraph, AddsState, BeginStates, BeginsGraph, HasCount}
use Rattle.ux_fst2_file.specs.declared.error.Fst2Error.{Fst2Error}
use Rattle.ux_fst2_file.specs.declared.error.Fst2Error.TheVariants.{BadCount, BadLine, NoMemory}
use Rattle.ux_fst2_file.specs.declared.file.Fst2State.{Fst2State}

-- behind so many states of a graph, of which the next line has this number, this is the first line
-- that is missing or is none of the graph's
pub data StopStates : (before number : ℕ) → (lines : List (List ℕ)) → (stop : ℕ) → Type 0 where
  no_line : (before number : ℕ) → StopStates before number [] number
  bad_line : (before number : ℕ) (line : List ℕ) (lines : List (List ℕ)) →
      (EndsGraph before line → ⊥) → ((state : Fst2State) → AddsState before line state → ⊥) →
      StopStates before number (line ∷ lines) number
  later_state : (before number stop : ℕ) (line : List ℕ) (lines : List (List ℕ))
      (state : Fst2State) → AddsState before line state →
      StopStates (before + 1) (number + 1) lines stop →
      StopStates before number (line ∷ lines) stop

-- behind the graphs of these names so many more are wanted, and this is the first line that is
-- missing or is none of theirs
pub data StopGraphs : (wanted : ℕ) → (names : List (List ℕ)) → (number : ℕ) →
    (lines : List (List ℕ)) → (stop : ℕ) → Type 0 where
  no_line : (wanted : ℕ) (names : List (List ℕ)) (number : ℕ) → 0 < wanted →
      StopGraphs wanted names number [] number
  no_head : (wanted : ℕ) (names : List (List ℕ)) (number : ℕ) (line : List ℕ)
      (lines : List (List ℕ)) → 0 < wanted →
      ((name : List ℕ) → BeginsGraph names line name → ⊥) →
      StopGraphs wanted names number (line ∷ lines) number
  in_states : (wanted : ℕ) (names : List (List ℕ)) (number stop : ℕ) (line name : List ℕ)
      (lines : List (List ℕ)) → 0 < wanted → BeginsGraph names line name →
      StopStates 0 (number + 1) lines stop → StopGraphs wanted names number (line ∷ lines) stop
  later_graph : (wanted : ℕ) (names : List (List ℕ)) (number stop : ℕ) (line name : List ℕ)
      (states : List Fst2State) (lines rest : List (List ℕ)) → 0 < wanted →
      BeginsGraph names line name → BeginStates 0 lines states rest →
      StopGraphs (wanted - 1) (names ++ name ∷ []) (number + (length states + 2)) rest stop →
      StopGraphs wanted names number (line ∷ lines) stop

-- why the text is refused; lines count from 1
abbrev pub Refuses : (text : List ℕ) → Fst2Error → Type 0
Refuses text BadCount = (count : ℕ) (lines : List (List ℕ)) → HasCount text count lines → ⊥
Refuses text (BadLine line) = (count : ℕ) × (lines : List (List ℕ)) × HasCount text count lines
    × StopGraphs count [] 2 lines line
Refuses text NoMemory = ⊥
