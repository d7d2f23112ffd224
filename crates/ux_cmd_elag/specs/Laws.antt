-- The formats of sentence automata and of rules are sound, so the plan of `elag` keeps the laws.
use Rattle.std.proofs.Common.{◌≡◌, ◌⊎◌, inl, inr, ℕ, List, sym, ap, ◌∙◌, subst}
use Rattle.ux_plan.specs.Laws.{IsSound, Laws}
use Rattle.ux_plan.specs.Plans.{Tells, each, gives, said_as}
use Rattle.ux_plan.proofs.PlanLaws.{decoded_sound, laws_each, laws_then, said_sound}
use Rattle.ux_reasons.specs.declared.reason.Reason.{Reason}
use Rattle.ux_reasons.specs.declared.reason.Reason.TheVariants.{Decode, Rule, Sentence}
use Rattle.ux_grammars.specs.Graphs.{drawing_format}
use Rattle.ux_grammars.proofs.GrammarLaws.{drawing_sound}
use Rattle.ux_grf.specs.declared.graph.Graph.{Graph}
use Rattle.ux_rules.specs.Refusing.{IsRuleGraph}
use Rattle.ux_rules.proofs.Laws.{one_refusal as one_rule_error, rule_stays}
use Rattle.ux_sentence.specs.Files as file
use Rattle.ux_sentence.proofs.Laws.{not_refused, refused_once, sentences_are_unique}
use Rattle.ux_cmd_elag.specs.Reading.{IsNoRule, RefusesRule, elag_plan, named_format, rule_format, sentences_format}

pub sentences_sound : IsSound sentences_format
sentences_sound =
    decoded_sound Decode (said_as Sentence file.AreSentences file.Refuses)
    (said_sound Sentence file.AreSentences file.Refuses not_refused sentences_are_unique
    refused_once)

-- the file draws no graph, or one that is no rule
abbrev Refused : (file : List ℕ) → Reason → Type 0
Refused file reason = drawing_format.Refuses file reason ⊎ RefusesRule file reason

-- a file that draws the graph of a rule isn't refused
accepted : (file : List ℕ) (graph : Graph) (reason : Reason) → drawing_format.Is file graph →
    IsRuleGraph graph → Refused file reason → ⊥
accepted file graph reason is holds (inl refused) =
    drawing_sound.excluded file graph reason is refused
accepted file graph reason is holds (inr (other, drawn, tells)) =
    let no_rule : IsNoRule graph tells.error =
    subst (λ (g : Graph). IsNoRule g tells.error) (drawing_sound.one file other graph drawn is)
    tells.refuses in
    rule_stays graph tells.error no_rule.not_memory holds no_rule.refuses

-- a graph that is no rule is refused for one reason
same_reason : (graph : Graph) (reason other : Reason) → Tells Rule (IsNoRule graph) reason →
    Tells Rule (IsNoRule graph) other → reason ≡ other
same_reason graph reason other a b =
    a.is ∙ (ap Rule (one_rule_error graph a.error b.error a.refuses.not_memory
    b.refuses.not_memory a.refuses.refuses b.refuses.refuses) ∙ sym b.is)

-- a file is refused for one reason
one_refusal : (file : List ℕ) (reason other : Reason) → Refused file reason → Refused file other →
    reason ≡ other
one_refusal file reason other (inl a) (inl b) = drawing_sound.one_reason file reason other a b
one_refusal file reason other (inl a) (inr (graph, drawn, tells)) =
    absurd (drawing_sound.excluded file graph reason drawn a)
one_refusal file reason other (inr (graph, drawn, tells)) (inl b) =
    absurd (drawing_sound.excluded file graph other drawn b)
one_refusal file reason other (inr (graph, drawn, tells)) (inr (graph', drawn', tells')) =
    same_reason graph reason other tells
    (subst (λ (g : Graph). Tells Rule (IsNoRule g) other)
    (drawing_sound.one file graph' graph drawn' drawn) tells')

rule_sound : IsSound rule_format
rule_sound = record {
  excluded = λ file graph reason is refused. accepted file graph reason is.0 is.1 refused;
  small = λ file graph is large. large;
  refused_small = λ file reason refused large. large;
  one = λ file graph other a b. drawing_sound.one file graph other a.0 b.0;
  one_reason = one_refusal;
}

pub laws : (tfst : List ℕ) (names : List (List ℕ)) → Laws (elag_plan tfst names)
laws tfst names = (
  sentences_sound,
  λ sentences. laws_then (λ rules. gives (record { sentences = sentences; rules = rules }))
      (λ rules. tt) (each named_format names) (laws_each named_format (λ name. rule_sound) names),
)
