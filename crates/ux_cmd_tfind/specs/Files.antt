-- What stops the command `tfind` where a file isn't accepted. Public: contracts of the crate speak of
-- it.
use Rattle.std.specs.Prelude.{◌≡◌, ◌⊎◌, ℕ, List}
use Rattle.ux_grammars.specs.Naming.{graph_file}
use Rattle.ux_plan.specs.declared.stop.Stop.{Stop}
use Rattle.ux_plan.specs.declared.stop.Stop.TheVariants as stop
use Rattle.ux_reading_match.specs.declared.error.TfstError.{TfstError}
use Rattle.ux_reading_match.specs.declared.error.TfstError.TheVariants as tfst_error
use Rattle.ux_reasons.specs.declared.reason.Reason.{Reason}
use Rattle.ux_reasons.specs.declared.reason.Reason.TheVariants as reason
use Rattle.ux_sentence.specs.Files.{Refuses}
use Rattle.ux_sentence.specs.declared.error.SentenceError.{SentenceError}
use Rattle.ux_sentence.specs.declared.error.SentenceError.TheVariants as sentence_error

-- the file of this name is refused for the reason, or memory runs out for its name
abbrev pub IsRefusedBy : (name : List ℕ) → Reason → Stop Reason → Type 0
IsRefusedBy name why by = (by ≡ stop.Refused name why) ⊎ (by ≡ stop.NoMemory)

-- what stops by an error of the grammar that the word names
abbrev pub StopsUsable : (word : List ℕ) → TfstError → Stop Reason → Type 0
StopsUsable word (tfst_error.BadItem name node) by =
    IsRefusedBy (graph_file word name) (reason.Tfst (tfst_error.BadItem name node)) by
StopsUsable word tfst_error.NoMemory by = by ≡ stop.NoMemory

-- what stops by an error of sentences
abbrev pub StopsSentences : (name : List ℕ) → SentenceError → Stop Reason → Type 0
StopsSentences name (sentence_error.BadLine line) by =
    IsRefusedBy name (reason.Sentence (sentence_error.BadLine line)) by
StopsSentences name (sentence_error.BadEdge line) by =
    IsRefusedBy name (reason.Sentence (sentence_error.BadEdge line)) by
StopsSentences name (sentence_error.Backward line) by =
    IsRefusedBy name (reason.Sentence (sentence_error.Backward line)) by
StopsSentences name sentence_error.NoMemory by = by ≡ stop.NoMemory

-- what stops where the text of this name says no sentences
pub record StopsText (name text : List ℕ) (by : Stop Reason) : Type 0 where
  pub error : SentenceError
  pub refused : (error ≡ sentence_error.NoMemory) ⊎ Refuses text error
  pub stops : StopsSentences name error by
