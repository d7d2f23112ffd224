-- What the files of `elag` are read as. Public: contracts of the crate speak of it.
use Rattle.std.specs.Prelude.{◌≡◌, ◌⊎◌, ℕ, List, Option}
use Rattle.std.specs.List.{AllZip}
use Rattle.ux_base.specs.Outside.{Files}
use Rattle.ux_grf.specs.declared.graph.Graph.{Graph}
use Rattle.ux_plan.specs.Plans.{Comes, Reads, each}
use Rattle.ux_rules.specs.Rules.{IsRuleOf, RuleSteps}
use Rattle.ux_sentence.specs.Files.{Refuses}
use Rattle.ux_plan.specs.declared.stop.Stop.{Stop}
use Rattle.ux_plan.specs.declared.stop.Stop.TheVariants as stop
use Rattle.ux_reasons.specs.declared.reason.Reason.{Reason}
use Rattle.ux_reasons.specs.declared.reason.Reason.TheVariants as reason
use Rattle.ux_rules.specs.declared.error.RuleError.{RuleError}
use Rattle.ux_rules.specs.declared.error.RuleError.TheVariants as rule_error
use Rattle.ux_sentence.specs.declared.error.SentenceError.{SentenceError}
use Rattle.ux_sentence.specs.declared.error.SentenceError.TheVariants as sentence_error
use Rattle.ux_cmd_elag.specs.Reading.{named_format, rule_format}

-- the file of this name draws the graph of the rule
pub record ReadsRule (name : List ℕ) (told : Option Files) (rule : RuleSteps) : Type 0 where
  pub graph : Graph
  pub has : Reads rule_format name told graph
  pub is : IsRuleOf graph rule

-- the files of these names draw the graphs of the rules
pub record AreRead (names : List (List ℕ)) (told : Option Files) (rules : List RuleSteps) : Type 0
  where
    pub graphs : List Graph
    pub comes : Comes (each named_format names) told graphs
    pub are : AllZip IsRuleOf graphs rules

-- the file of this name is refused for the reason, or memory runs out for its name
abbrev pub IsRefusedBy : (name : List ℕ) → Reason → Stop Reason → Type 0
IsRefusedBy name why by = (by ≡ stop.Refused name why) ⊎ (by ≡ stop.NoMemory)

-- what stops by an error of sentences
abbrev pub StopsSentences : (name : List ℕ) → SentenceError → Stop Reason → Type 0
StopsSentences name (sentence_error.BadLine line) by =
    IsRefusedBy name (reason.Sentence (sentence_error.BadLine line)) by
StopsSentences name (sentence_error.BadEdge line) by =
    IsRefusedBy name (reason.Sentence (sentence_error.BadEdge line)) by
StopsSentences name (sentence_error.Backward line) by =
    IsRefusedBy name (reason.Sentence (sentence_error.Backward line)) by
StopsSentences name sentence_error.NoMemory by = by ≡ stop.NoMemory

-- what stops where the text of this name says no sentences
pub record StopsText (name text : List ℕ) (by : Stop Reason) : Type 0 where
  pub error : SentenceError
  pub refused : (error ≡ sentence_error.NoMemory) ⊎ Refuses text error
  pub stops : StopsSentences name error by

-- what stops by an error of a rule
abbrev pub StopsRule : (name : List ℕ) → RuleError → Stop Reason → Type 0
StopsRule name rule_error.NoIf by = IsRefusedBy name (reason.Rule rule_error.NoIf) by
StopsRule name (rule_error.BadMarks node) by =
    IsRefusedBy name (reason.Rule (rule_error.BadMarks node)) by
StopsRule name (rule_error.Call node) by = IsRefusedBy name (reason.Rule (rule_error.Call node)) by
StopsRule name (rule_error.BadItem node) by =
    IsRefusedBy name (reason.Rule (rule_error.BadItem node)) by
StopsRule name rule_error.NoMemory by = by ≡ stop.NoMemory
