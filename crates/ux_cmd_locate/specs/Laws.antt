-- The formats of a search's files are sound, so its plan keeps the laws.
use Rattle.std.proofs.Common.{ℕ, Bool, List}
use Rattle.ux_plan.specs.Laws.{Laws}
use Rattle.ux_plan.specs.Plans.{each, gives, reads, then}
use Rattle.ux_plan.proofs.PlanLaws.{laws_then}
use Rattle.ux_grammars.specs.Graphs.{grammar_plan}
use Rattle.ux_grammars.proofs.GrammarLaws.{grammar_laws}
use Rattle.ux_dictionaries.specs.Dictionaries.{dictionary_format}
use Rattle.ux_dictionaries.proofs.DictionaryLaws.{dictionaries_laws}
use Rattle.ux_texts.specs.Texts.{text_format}
use Rattle.ux_texts.proofs.TextLaws.{alphabet_sound, text_sound}
use Rattle.ux_cmd_locate.specs.Reading.{search_plan}

pub search_laws : (graph text alphabet : List ℕ) (names : List (List ℕ)) (chars : Bool) →
    Laws (search_plan graph text alphabet names chars)
search_laws graph text alphabet names chars = (
  alphabet_sound chars,
  λ letters. laws_then (λ source. reads text (text_format letters) (λ tokens.
      then (each dictionary_format names) (λ dics.
      gives (record { letters = letters; source = source; tokens = tokens; dics = dics }))))
      (λ source. (
        text_sound letters,
        λ tokens. laws_then (λ dics.
            gives (record { letters = letters; source = source; tokens = tokens; dics = dics }))
            (λ dics. tt) (each dictionary_format names)
            (dictionaries_laws names),
      ))
      (grammar_plan graph letters)
      (grammar_laws graph letters),
)
