-- A text and the dictionaries that are applied to it: what is read, in which order. Public: commands
-- cite it.
use Rattle.std.specs.Prelude.{ℕ, Bool, List}
use Rattle.ux_alphabet.specs.Letters.{Letters}
use Rattle.ux_apply.specs.declared.priority.Priority.{Priority}
use Rattle.ux_dela.specs.declared.entry.Entry.{Entry}
use Rattle.ux_dictionaries.specs.Dictionaries.{dictionary_format}
use Rattle.ux_plan.specs.Plans.{Plan, each, gives, then}
use Rattle.ux_reasons.specs.declared.reason.Reason.{Reason}
use Rattle.ux_texts.specs.Texts.{letters_and_text}
use Rattle.ux_tokens.specs.Tokens.{Token}

-- the letters and the tokens of a text, and the dictionaries that are applied to it
pub record LookedUp : Type 0 where
  pub letters : Letters
  pub tokens : List Token
  pub dics : List (Priority × List Entry)

-- an alphabet, a text in its letters, and the dictionaries of these names
abbrev pub text_with_dictionaries : (text alphabet : List ℕ) → (names : List (List ℕ)) →
    (chars : Bool) → Plan Reason LookedUp
text_with_dictionaries text alphabet names chars =
    then (letters_and_text text alphabet chars) (λ read.
    then (each dictionary_format names) (λ dics.
    gives (record { letters = read.0; tokens = read.1; dics = dics })))
