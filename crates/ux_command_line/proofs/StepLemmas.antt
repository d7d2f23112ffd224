-- One word more of a cascade.
use Rattle.std.proofs.Common.{◌≡◌, ◌∙◌, refl, sym, ap, ℕ, ◌+◌, ◌<◌, true, List, [], ◌∷◌, ◌++◌, option_to_list, length, get_or, take, Some}
use Rattle.std.proofs.lemmas.List.{take_more}
use Rattle.std.proofs.lemmas.List.Elements.{filter_map-append}
use Rattle.std.proofs.lemmas.List.Folds.{list_all_more}
use Rattle.ux_command_line.specs.declared.request.CascadeStep.{CascadeStep}
use Rattle.ux_command_line.specs.declared.steps.StepWord.{StepWord}
use Rattle.ux_command_line.specs.declared.steps.StepWord.TheVariants as word
use Rattle.ux_command_line.specs.Steps.{are_steps, dic_of, dics_in, step_of, steps_in, step_word_of}
use Rattle.ux_command_line.specs.Tables.{Word}

-- the words so far are read, into these steps and dictionaries
abbrev pub AreRead : List Word → List CascadeStep → List Word → Type 0
AreRead words steps dics =
    (are_steps words ≡ true) × (steps ≡ steps_in words) × (dics ≡ dics_in words)

-- no word yet
pub AreRead-none : AreRead [] [] []
AreRead-none = (refl, refl, refl)

module _ (words : List Word) (i : ℕ) (d : Word) (below : i < length words)
    (steps : List CascadeStep) (dics : List Word) (read : AreRead (take i words) steps dics) where
  here : (w : StepWord) → step_word_of (get_or words i d) ≡ Some w →
      are_steps (take (i + 1) words) ≡ true
  here w is = list_all_more _ words i d below ∙ rw (read.0, is) refl

  steps_more : steps_in (take (i + 1) words)
      ≡ steps_in (take i words) ++ steps_in (get_or words i d ∷ [])
  steps_more = ap steps_in (take_more words i d below)
      ∙ filter_map-append _ (take i words) (get_or words i d ∷ [])

  dics_more : dics_in (take (i + 1) words)
      ≡ dics_in (take i words) ++ dics_in (get_or words i d ∷ [])
  dics_more = ap dics_in (take_more words i d below)
      ∙ filter_map-append _ (take i words) (get_or words i d ∷ [])

  -- one word more is read
  pub AreRead-more : (w : StepWord) → step_word_of (get_or words i d) ≡ Some w →
      AreRead (take (i + 1) words) (steps ++ option_to_list (step_of w))
      (dics ++ option_to_list (dic_of w))
  AreRead-more w is = (
    here w is,
    sym (steps_more ∙ rw (read.1, one_step w is) refl),
    sym (dics_more ∙ rw (read.2, one_dic w is) refl),
  )
    where
      one_step : (w : StepWord) → step_word_of (get_or words i d) ≡ Some w →
          steps_in (get_or words i d ∷ []) ≡ option_to_list (step_of w)
      one_step (word.Step step) is = rw is refl
      one_step (word.Dic dic) is = rw is refl

      one_dic : (w : StepWord) → step_word_of (get_or words i d) ≡ Some w →
          dics_in (get_or words i d ∷ []) ≡ option_to_list (dic_of w)
      one_dic (word.Step step) is = rw is refl
      one_dic (word.Dic dic) is = rw is refl
