-- The formats of a cascade's files and its test are sound, so its plan keeps the laws.
use Rattle.std.proofs.Common.{ℕ, false, List, sym, ◌∙◌}
use Rattle.ux_command_line.specs.declared.request.CascadeStep.{CascadeStep}
use Rattle.ux_dictionaries.specs.Dictionaries.{dictionary_format}
use Rattle.ux_dictionaries.proofs.DictionaryLaws.{dictionaries_laws}
use Rattle.ux_grammars.proofs.GrammarLaws.{grammar_laws}
use Rattle.ux_plan.specs.Laws.{Laws}
use Rattle.ux_plan.specs.Plans.{all, each, gives, reads, then}
use Rattle.ux_plan.proofs.PlanLaws.{laws_all, laws_then}
use Rattle.ux_texts.specs.Texts.{text_format}
use Rattle.ux_texts.proofs.TextLaws.{alphabet_sound, text_sound}
use Rattle.ux_cmd_cascade.specs.Reading.{Cascaded, files_plan, step_plan}
use Rattle.ux_cmd_cascade.specs.Testing.{cascade_plan, test_plan}

files_laws : (text alphabet : List ℕ) (steps : List CascadeStep) (names : List (List ℕ)) →
    Laws (files_plan text alphabet steps names)
files_laws text alphabet steps names = (
  alphabet_sound false,
  λ letters. laws_then (λ sources. reads text (text_format letters) (λ tokens.
      then (each dictionary_format names) (λ dics.
      gives (record { letters = letters; sources = sources; tokens = tokens; dics = dics }))))
      (λ sources. (
        text_sound letters,
        λ tokens. laws_then (λ dics.
            gives (record { letters = letters; sources = sources; tokens = tokens; dics = dics }))
            (λ dics. tt) (each dictionary_format names)
            (dictionaries_laws names),
      ))
      (all (step_plan letters) steps)
      (laws_all (step_plan letters) (λ step. grammar_laws step.graph letters) steps),
)

test_laws : (text : List ℕ) (steps : List CascadeStep) (read : Cascaded) →
    Laws (test_plan text steps read)
test_laws text steps read = (
  record {
    excluded = λ stop holds stops. holds stops.1;
    one_stop = λ stop other a b. a.0 ∙ sym b.0;
  },
  tt,
)

pub cascade_laws : (text alphabet : List ℕ) (steps : List CascadeStep) (names : List (List ℕ)) →
    Laws (cascade_plan text alphabet steps names)
cascade_laws text alphabet steps names =
    laws_then (test_plan text steps) (test_laws text steps) (files_plan text alphabet steps names)
    (files_laws text alphabet steps names)
