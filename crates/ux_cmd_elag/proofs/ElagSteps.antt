-- How the plan of `elag` is carried out.
use Rattle.std.proofs.Common.{ℕ, List, Option, subst}
use Rattle.ux_base.specs.Outside.{Files, Seen, IsLater}
use Rattle.ux_grf.specs.declared.graph.Graph.{Graph}
use Rattle.ux_plan.specs.Plans.{Comes, Halts, Plan, Reads, bytes_format, decoded, each, gives, said_as, then}
use Rattle.ux_plan.proofs.Decoded.{decoded_reads}
use Rattle.ux_plan.specs.declared.stop.Stop.{Stop}
use Rattle.ux_plan.proofs.PlanSteps.{comes_gives, comes_read, comes_then, halts_first, halts_later}
use Rattle.ux_reading_table.specs.Numbered.{IsTableOf}
use Rattle.ux_reasons.specs.declared.reason.Reason.{Reason}
use Rattle.ux_reasons.specs.declared.reason.Reason.TheVariants as reason
use Rattle.ux_rules.specs.Rules.{RuleSteps}
use Rattle.ux_sentence.specs.Files as file
use Rattle.ux_sentence.specs.declared.sentence.Sentence.{Sentence}
use Rattle.ux_cmd_elag.specs.Elag.{AreRuled}
use Rattle.ux_cmd_elag.specs.Files.{AreRead}
use Rattle.ux_cmd_elag.specs.Reading.{Ruled, elag_plan, named_format, sentences_format}
use Rattle.ux_cmd_elag.specs.Ruling.{IsRuledFile}
use Rattle.ux_cmd_elag.proofs.RuledLemmas.{left_by_graphs}

module _ (tfst : List ℕ) (names : List (List ℕ)) where
  abbrev given : List Sentence → List Graph → Ruled
  given sentences rules = record { sentences = sentences; rules = rules }

  -- what is read after the automata
  abbrev pub rest : List Sentence → Plan Reason Ruled
  rest sentences = then (each named_format names) (λ rules. gives (given sentences rules))

  module _ (old mid : Seen) (later : IsLater old mid) (sentences : List Sentence)
      (has : Reads sentences_format tfst old.files sentences) where
    -- the rules were read too
    pub rules_come : (rules : List Graph) → Comes (each named_format names) mid.files rules →
        Comes (elag_plan tfst names) old.files (given sentences rules)
    rules_come rules second =
        comes_read sentences_format tfst rest old.files sentences (given sentences rules) has
        (comes_then (each named_format names) (λ rules. gives (given sentences rules)) old.files
        rules (given sentences rules) (subst (λ (t : Option Files). Comes (each named_format names)
        t rules) later.kept second) (comes_gives Reason (given sentences rules) old.files))

    -- a rule stops the reading
    pub rules_halt : (new : Seen) (stop : Stop Reason) →
        Halts (each named_format names) mid new stop →
        Halts (elag_plan tfst names) old new stop
    rules_halt new stop second =
        halts_later sentences_format tfst rest old mid new stop sentences has later
        (halts_first (each named_format names) (λ rules. gives (given sentences rules)) mid new stop
        second)

-- the file of this text says the sentences of its table
pub table_reads : (name : List ℕ) (told : Option Files) (text : List ℕ) (texts : List (List ℕ)) →
    Reads (decoded reason.Decode bytes_format) name told text → (table : IsTableOf text texts) →
    Reads sentences_format name told table.sentences
table_reads name told text texts has table =
    decoded_reads reason.Decode (said_as reason.Sentence file.AreSentences file.Refuses) name told
    text
    table.sentences has table.said

-- the text of what the rules leave answers what was read
pub answers_read : (sentences : List Sentence) (answer : List ℕ) (names : List (List ℕ))
    (told : Option Files) (rules : List RuleSteps) → (read : AreRead names told rules) →
    IsRuledFile rules sentences answer →
    AreRuled (record { sentences = sentences; rules = read.graphs }) answer
answers_read sentences answer names told rules read is = record {
  left = is.left;
  each = left_by_graphs read.graphs rules read.are sentences is.left is.each;
  is = is.is;
}
