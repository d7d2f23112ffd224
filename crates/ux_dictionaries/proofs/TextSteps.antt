-- How the plan of a text and its dictionaries is carried out.
use Rattle.std.proofs.Common.{ℕ, Bool, List, Option, subst}
use Rattle.ux_alphabet.specs.Letters.{Letters}
use Rattle.ux_apply.specs.declared.priority.Priority.{Priority}
use Rattle.ux_base.specs.Outside.{Files, Seen, IsLater}
use Rattle.ux_dela.specs.declared.entry.Entry.{Entry}
use Rattle.ux_plan.specs.Plans.{Comes, Halts, Plan, each, gives, then}
use Rattle.ux_plan.specs.declared.stop.Stop.{Stop}
use Rattle.ux_plan.proofs.PlanSteps.{comes_gives, comes_then, halts_first, halts_second}
use Rattle.ux_tokens.specs.Tokens.{Token}
use Rattle.ux_dictionaries.specs.Dictionaries.{dictionary_format}
use Rattle.ux_dictionaries.specs.Texts.{LookedUp, text_with_dictionaries}
use Rattle.ux_texts.specs.Texts.{letters_and_text}
use Rattle.ux_reasons.specs.declared.reason.Reason.{Reason}

module _ (text alphabet : List ℕ) (names : List (List ℕ)) (chars : Bool) where
  -- what was read
  abbrev looked_up : Letters × List Token → List (Priority × List Entry) → LookedUp
  looked_up read dics = record { letters = read.0; tokens = read.1; dics = dics }

  -- what is read after the text
  abbrev rest : Letters × List Token → Plan Reason LookedUp
  rest read = then (each dictionary_format names) (λ dics. gives (looked_up read dics))

  -- the alphabet or the text stops the reading
  pub text_stops : (old new : Seen) (stop : Stop Reason) →
      Halts (letters_and_text text alphabet chars) old new stop →
      Halts (text_with_dictionaries text alphabet names chars) old new stop
  text_stops old new stop first =
      halts_first (letters_and_text text alphabet chars) rest old new stop first

  module _ (old mid : Seen) (later : IsLater old mid) (read : Letters × List Token)
      (first : Comes (letters_and_text text alphabet chars) old.files read) where
    -- the dictionaries were read too
    pub dictionaries_come : (dics : List (Priority × List Entry)) →
        Comes (each dictionary_format names) mid.files dics →
        Comes (text_with_dictionaries text alphabet names chars) old.files (looked_up read dics)
    dictionaries_come dics second =
        comes_then (letters_and_text text alphabet chars) rest old.files read
        (looked_up read dics) first (comes_then (each dictionary_format names)
        (λ dics. gives (looked_up read dics)) old.files dics (looked_up read dics)
        (subst (λ (t : Option Files). Comes (each dictionary_format names) t dics)
        later.kept second) (comes_gives Reason (looked_up read dics) old.files))

    -- a dictionary stops the reading
    pub dictionaries_halt : (new : Seen) (stop : Stop Reason) →
        Halts (each dictionary_format names) mid new stop →
        Halts (text_with_dictionaries text alphabet names chars) old new stop
    dictionaries_halt new stop second =
        halts_second (letters_and_text text alphabet chars) rest old mid new stop
        read first later (halts_first (each dictionary_format names)
        (λ dics. gives (looked_up read dics)) mid new stop second)
