-- The plan of a text and its dictionaries keeps the laws.
use Rattle.std.specs.Prelude.{ℕ, Bool, List}
use Rattle.ux_dictionaries.specs.Dictionaries.{dictionary_format}
use Rattle.ux_dictionaries.specs.Texts.{LookedUp, text_with_dictionaries}
use Rattle.ux_dictionaries.proofs.DictionaryLaws.{dictionaries_laws}
use Rattle.ux_plan.specs.Laws.{Laws}
use Rattle.ux_plan.specs.Plans.{Plan, each, gives, then}
use Rattle.ux_plan.proofs.PlanLaws.{laws_then}
use Rattle.ux_reasons.specs.declared.reason.Reason.{Reason}
use Rattle.ux_texts.specs.Texts.{letters_and_text}
use Rattle.ux_texts.proofs.TextLaws.{letters_and_text_laws}

pub text_with_dictionaries_laws : (text alphabet : List ℕ) (names : List (List ℕ)) (chars : Bool) →
    Laws (text_with_dictionaries text alphabet names chars)
text_with_dictionaries_laws text alphabet names chars =
    laws_then (λ read. then (each dictionary_format names) (λ dics.
    gives (record { letters = read.0; tokens = read.1; dics = dics })))
    (λ read. laws_then (λ dics. gives (record { letters = read.0; tokens = read.1; dics = dics }))
    (λ dics. tt) (each dictionary_format names) (dictionaries_laws names))
    (letters_and_text text alphabet chars) (letters_and_text_laws text alphabet chars)
