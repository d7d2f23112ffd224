-- What a cascade reads, in which order. Public, through `Cascade`.
use Rattle.std.specs.Prelude.{ℕ, false, List}
use Rattle.ux_alphabet.specs.Letters.{Letters}
use Rattle.ux_apply.specs.declared.priority.Priority.{Priority}
use Rattle.ux_command_line.specs.declared.request.CascadeStep.{CascadeStep}
use Rattle.ux_dela.specs.declared.entry.Entry.{Entry}
use Rattle.ux_dictionaries.specs.Dictionaries.{dictionary_format}
use Rattle.ux_grammars.specs.Graphs.{grammar_plan}
use Rattle.ux_grammars.specs.Sources.{Source}
use Rattle.ux_plan.specs.Plans.{Plan, all, each, gives, reads, then}
use Rattle.ux_reasons.specs.declared.reason.Reason.{Reason}
use Rattle.ux_texts.specs.Texts.{alphabet_format, text_format}
use Rattle.ux_tokens.specs.Tokens.{Token}

-- what a cascade reads: the letters, the grammars of its steps, the tokens of a text, and the
-- dictionaries that count for every step
pub record Cascaded : Type 0 where
  pub letters : Letters
  pub sources : List Source
  pub tokens : List Token
  pub dics : List (Priority × List Entry)

-- the grammar of a step
abbrev pub step_plan : Letters → CascadeStep → Plan Reason Source
step_plan letters step = grammar_plan step.graph letters

-- the alphabet is read first, then the grammars step by step, then the text, then the dictionaries
abbrev pub files_plan : (text alphabet : List ℕ) → List CascadeStep → (dics : List (List ℕ)) →
    Plan Reason Cascaded
files_plan text alphabet steps dics =
    reads alphabet (alphabet_format false) (λ letters.
    then (all (step_plan letters) steps) (λ sources.
    reads text (text_format letters) (λ tokens.
    then (each dictionary_format dics) (λ dics.
    gives (record { letters = letters; sources = sources; tokens = tokens; dics = dics })))))
