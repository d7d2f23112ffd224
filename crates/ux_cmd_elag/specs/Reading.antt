-- What the command `elag` reads, in which order. Public, through `Elag`.
use Rattle.std.specs.Prelude.{◌≢◌, ◌⊎◌, ℕ, List}
use Rattle.ux_plan.specs.Plans.{Format, Plan, Tells, decoded, each, gives, reads, said_as, then}
use Rattle.ux_reasons.specs.declared.reason.Reason.{Reason}
use Rattle.ux_reasons.specs.declared.reason.Reason.TheVariants.{Decode, Rule, Sentence}
use Rattle.ux_grammars.specs.Graphs.{drawing_format}
use Rattle.ux_grf.specs.declared.graph.Graph.{Graph}
use Rattle.ux_rules.specs.Refusing.{IsRuleGraph}
use Rattle.ux_rules.specs.Refusing as rule
use Rattle.ux_rules.specs.declared.error.RuleError.{RuleError}
use Rattle.ux_rules.specs.declared.error.RuleError.TheVariants as rule_error
use Rattle.ux_sentence.specs.Files as file
use Rattle.ux_sentence.specs.declared.sentence.Sentence as sentences

-- files of sentence automata
abbrev pub sentences_format : Format Reason (List sentences.Sentence)
sentences_format = decoded Decode (said_as Sentence file.AreSentences file.Refuses)

-- the graph is no rule
pub record IsNoRule (graph : Graph) (error : RuleError) : Type 0 where
  pub refuses : rule.Refuses graph error
  pub not_memory : error ≢ rule_error.NoMemory

-- the file draws a graph that is no rule, for this reason
abbrev pub RefusesRule : (file : List ℕ) → Reason → Type 0
RefusesRule file reason =
    (graph : Graph) × drawing_format.Is file graph × Tells Rule (IsNoRule graph) reason

-- files whose text draws the graph of a rule
abbrev pub rule_format : Format Reason Graph
rule_format = record {
  Is = λ file graph. drawing_format.Is file graph × IsRuleGraph graph;
  Refuses = λ file reason. drawing_format.Refuses file reason ⊎ RefusesRule file reason;
  IsTooLarge = λ file. ⊥;
}

-- the same of a file of any name
abbrev pub named_format : (name : List ℕ) → Format Reason Graph
named_format name = rule_format

-- what is read: the automata of sentences, and the graphs of the rules
pub record Ruled : Type 0 where
  pub sentences : List sentences.Sentence
  pub rules : List Graph

-- the automata, and then the rules in the order of their names
abbrev pub elag_plan : (tfst : List ℕ) → (names : List (List ℕ)) → Plan Reason Ruled
elag_plan tfst names =
    reads tfst sentences_format (λ sentences.
    then (each named_format names) (λ rules.
    gives (record { sentences = sentences; rules = rules })))
