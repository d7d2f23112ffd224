-- From the bytes of a file of sentence automata, or of a rule, to what stops the reading.
use Rattle.std.proofs.Common.{◌≡◌, ◌≢◌, ◌⊎◌, inl, inr, ℕ, List, Option, refl, sym, subst}
use Rattle.ux_base.specs.Outside.{Files, Seen}
use Rattle.ux_plan.specs.declared.stop.Stop.{Stop}
use Rattle.ux_plan.specs.declared.stop.Stop.TheVariants.{Absent, ReadFault, TooLarge, Refused, NoMemory}
use Rattle.ux_plan.specs.Plans.{HasFile, IsLong, Reads, StopsFile, StopsTest, bytes_format, decoded, refusing, said_as}
use Rattle.ux_plan.proofs.Decoded.{decoded_refused}
use Rattle.ux_reasons.specs.declared.reason.Reason.{Reason}
use Rattle.ux_reasons.specs.declared.reason.Reason.TheVariants.{Decode, Rule, Sentence}
use Rattle.ux_grammars.specs.Graphs.{drawing_format}
use Rattle.ux_grf.specs.declared.graph.Graph.{Graph}
use Rattle.ux_rules.specs.Refusing.{IsRuleGraph}
use Rattle.ux_rules.specs.Refusing as rule
use Rattle.ux_rules.specs.Rules.{IsRuleOf, RuleSteps}
use Rattle.ux_rules.specs.declared.error.RuleError.{RuleError}
use Rattle.ux_rules.specs.declared.error.RuleError.TheVariants as rule_error
use Rattle.ux_sentence.specs.Files as file
use Rattle.ux_sentence.specs.declared.error.SentenceError.{SentenceError}
use Rattle.ux_sentence.specs.declared.error.SentenceError.TheVariants as sentence_error
use Rattle.ux_cmd_elag.specs.Files.{IsRefusedBy, ReadsRule, StopsRule, StopsSentences, StopsText}
use Rattle.ux_cmd_elag.specs.Reading.{rule_format, sentences_format}

-- the error isn't want of memory, so it refuses
refused_so : (Refuses : SentenceError → Type 0) (error : SentenceError) →
    (error ≡ sentence_error.NoMemory → ⊥) →
    (error ≡ sentence_error.NoMemory) ⊎ Refuses error → Refuses error
refused_so Refuses error some (inl none) = absurd (some none)
refused_so Refuses error some (inr refuses) = refuses

module _ (name : List ℕ) (old new : Seen) where
  -- the file of sentences is refused for this reason, if memory doesn't run out
  by_reason : (text : List ℕ) (error : SentenceError) (by : Stop Reason) →
      Reads (decoded Decode bytes_format) name old.files text → file.Refuses text error →
      IsRefusedBy name (Sentence error) by → StopsFile sentences_format name old new by
  by_reason text error by has refuses (inl is) =
      subst (StopsFile sentences_format name old new) (sym is)
      (decoded_refused Decode (said_as Sentence file.AreSentences file.Refuses) name old new text
      (Sentence error) has (record { error = error; refuses = refuses; is = refl }))
  by_reason text error by has refuses (inr is) =
      subst (StopsFile sentences_format name old new) (sym is) tt

  sentences_stop : (text : List ℕ) (error : SentenceError) (by : Stop Reason) →
      Reads (decoded Decode bytes_format) name old.files text →
      (error ≡ sentence_error.NoMemory) ⊎ file.Refuses text error →
      StopsSentences name error by → StopsFile sentences_format name old new by
  sentences_stop text (sentence_error.BadLine line) by has refuses is =
      by_reason text (sentence_error.BadLine line) by has
      (refused_so (file.Refuses text) (sentence_error.BadLine line) (λ e. cc) refuses) is
  sentences_stop text (sentence_error.BadEdge line) by has refuses is =
      by_reason text (sentence_error.BadEdge line) by has
      (refused_so (file.Refuses text) (sentence_error.BadEdge line) (λ e. cc) refuses) is
  sentences_stop text (sentence_error.Backward line) by has refuses is =
      by_reason text (sentence_error.Backward line) by has
      (refused_so (file.Refuses text) (sentence_error.Backward line) (λ e. cc) refuses) is
  sentences_stop text sentence_error.NoMemory by has refuses is =
      subst (StopsFile sentences_format name old new) (sym is) tt

  pub text_stops : (text : List ℕ) (by : Stop Reason) →
      Reads (decoded Decode bytes_format) name old.files text → StopsText name text by →
      StopsFile sentences_format name old new by
  text_stops text by has stops = sentences_stop text stops.error by has stops.refused stops.stops

  -- the bytes of a rule's file aren't read
  pub rule_bytes_stop : (stop : Stop Reason) → StopsFile bytes_format name old new stop →
      StopsFile rule_format name old new stop
  rule_bytes_stop (Absent named) stops = stops
  rule_bytes_stop (ReadFault named) stops = stops
  rule_bytes_stop (TooLarge named) stops = (stops.0, long stops.1)
    where
      long : IsLong {R = Reason} bytes_format name old new → IsLong rule_format name old new
      long (inl rose) = inl rose
      long (inr (bytes, has, large)) = absurd large
  rule_bytes_stop (Refused named reason) stops = absurd stops.1.2
  rule_bytes_stop NoMemory stops = tt

  -- they draw no graph
  pub rule_drawing_stops : (bytes : List ℕ) (stop : Stop Reason) → HasFile old.files name bytes →
      StopsTest (refusing (λ named reason. (named ≡ name)
      × drawing_format.Refuses bytes reason)) stop →
      StopsFile rule_format name old new stop
  rule_drawing_stops bytes (Absent named) has stops = absurd stops
  rule_drawing_stops bytes (ReadFault named) has stops = absurd stops
  rule_drawing_stops bytes (TooLarge named) has stops = absurd stops
  rule_drawing_stops bytes (Refused named reason) has stops =
      (stops.0, (bytes, has, inl stops.1))
  rule_drawing_stops bytes NoMemory has stops = tt

  -- the graph is no rule
  by_rule : (bytes : List ℕ) (graph : Graph) (error : RuleError) (by : Stop Reason) →
      HasFile old.files name bytes → drawing_format.Is bytes graph → rule.Refuses graph error →
      error ≢ rule_error.NoMemory → IsRefusedBy name (Rule error) by →
      StopsFile rule_format name old new by
  by_rule bytes graph error by has drawn refuses some (inl is) =
      subst (StopsFile rule_format name old new) (sym is) (
        refl,
        (
          bytes,
          has,
          inr (
            graph,
            drawn,
            record {
              error = error;
              refuses = record { refuses = refuses; not_memory = some };
              is = refl;
            },
          ),
        ),
      )
  by_rule bytes graph error by has drawn refuses some (inr is) =
      subst (StopsFile rule_format name old new) (sym is) tt

  pub rule_stops : (bytes : List ℕ) (graph : Graph) (error : RuleError) (by : Stop Reason) →
      HasFile old.files name bytes → drawing_format.Is bytes graph → rule.Refuses graph error →
      StopsRule name error by → StopsFile rule_format name old new by
  rule_stops bytes graph rule_error.NoIf by has drawn refuses is =
      by_rule bytes graph rule_error.NoIf by has drawn refuses (λ e. cc) is
  rule_stops bytes graph (rule_error.BadMarks node) by has drawn refuses is =
      by_rule bytes graph (rule_error.BadMarks node) by has drawn refuses (λ e. cc) is
  rule_stops bytes graph (rule_error.Call node) by has drawn refuses is =
      by_rule bytes graph (rule_error.Call node) by has drawn refuses (λ e. cc) is
  rule_stops bytes graph (rule_error.BadItem node) by has drawn refuses is =
      by_rule bytes graph (rule_error.BadItem node) by has drawn refuses (λ e. cc) is
  rule_stops bytes graph rule_error.NoMemory by has drawn refuses is =
      subst (StopsFile rule_format name old new) (sym is) tt

-- the bytes draw the graph of the rule
pub rule_reads : (name : List ℕ) (told : Option Files) (bytes : List ℕ) (graph : Graph)
    (steps : RuleSteps) → HasFile told name bytes → drawing_format.Is bytes graph →
    IsRuleGraph graph → IsRuleOf graph steps → ReadsRule name told steps
rule_reads name told bytes graph steps has drawn is_rule is = record {
  graph = graph;
  has = record { file = bytes; has = has; is = (drawn, is_rule) };
  is = is;
}

pub ruleset rule_steps = (rule_bytes_stop, rule_drawing_stops, rule_stops, rule_reads)
