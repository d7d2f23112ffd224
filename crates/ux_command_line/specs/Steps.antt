-- How the steps and the dictionaries of a cascade are written. Public, through `Requests` and
-- `Writing`.
use Rattle.std.specs.Prelude.{◌≡◌, ◌≢◌, ℕ, ◌==◌, ◌++◌, Bool, List, [], ◌∷◌, codes, drop, nat_eq, if◌then◌else◌, Option, Some, None, is_some, option_map, option_and_then, filter_map}
use Rattle.std.specs.List.{list_all, before_first, after_first, starts_with}
use Rattle.std.specs.Str.{bytes_eq}
use Rattle.ux_base.specs.declared.settings.Mode.{Mode}
use Rattle.ux_base.specs.declared.settings.Mode.TheVariants.{Merge, Replace}
use Rattle.ux_command_line.specs.declared.request.CascadeStep.{CascadeStep}
use Rattle.ux_command_line.specs.declared.steps.StepWord.{StepWord}
use Rattle.ux_command_line.specs.declared.steps.StepWord.TheVariants as word
use Rattle.ux_command_line.specs.Tables.{Word, number_of}

abbrev pub COLON : ℕ
COLON = 58

abbrev pub is_colon : ℕ → Bool
is_colon b = b == COLON

-- how often a step is applied: once, or as one or two digits say, from 1 to 99
abbrev pub times_of : Word → Option ℕ
times_of [] = Some 1
times_of digits = number_of 2 1 99 digits

-- how a kind of step rewrites, and how often: `merge` or `replace`, and digits
abbrev pub rewriting_of : Word → Option (Mode × ℕ)
rewriting_of kind =
    if starts_with nat_eq kind (codes "merge")
    then option_map (λ times. (Merge, times)) (times_of (drop 5 kind))
    else if starts_with nat_eq kind (codes "replace")
    then option_map (λ times. (Replace, times)) (times_of (drop 7 kind))
    else None

-- what a kind and the name of a file stand for: a dictionary or a step
abbrev pub word_by : (kind name : Word) → Option StepWord
word_by kind [] = None
word_by kind (first ∷ rest) =
    if bytes_eq kind (codes "dic") then Some (word.Dic (first ∷ rest))
    else option_map (λ way. word.Step (record {
      graph = first ∷ rest;
      mode = way.0;
      times = way.1;
    })) (rewriting_of kind)

-- the step or the dictionary that a word writes: its kind, a colon, and the name of its file
abbrev pub step_word_of : Word → Option StepWord
step_word_of text = word_by (before_first is_colon text) (after_first is_colon text)

-- the word writes a step or a dictionary: its kind, how often a step is applied, a colon, and the
-- name of its file
pub data WritesStep : Word → StepWord → Type 0 where
  merges : (digits : Word) {graph : Word} {times : ℕ} →
      times_of digits ≡ Some times → graph ≢ [] →
      WritesStep (codes "merge" ++ digits ++ COLON ∷ graph)
      (word.Step (record { graph = graph; mode = Merge; times = times }))
  replaces : (digits : Word) {graph : Word} {times : ℕ} →
      times_of digits ≡ Some times → graph ≢ [] →
      WritesStep (codes "replace" ++ digits ++ COLON ∷ graph)
      (word.Step (record { graph = graph; mode = Replace; times = times }))
  names : {dic : Word} → dic ≢ [] → WritesStep (codes "dic" ++ COLON ∷ dic) (word.Dic dic)

abbrev pub step_of : StepWord → Option CascadeStep
step_of (word.Step step) = Some step
step_of (word.Dic dic) = None

abbrev pub dic_of : StepWord → Option Word
dic_of (word.Step step) = None
dic_of (word.Dic dic) = Some dic

-- each of the words is a step or a dictionary
abbrev pub are_steps : List Word → Bool
are_steps words = list_all (λ text. is_some (step_word_of text)) words

-- the steps among the words, and the dictionaries, each in the order of the words
abbrev pub steps_in : List Word → List CascadeStep
steps_in words = filter_map (λ text. option_and_then step_of (step_word_of text)) words

abbrev pub dics_in : List Word → List Word
dics_in words = filter_map (λ text. option_and_then dic_of (step_word_of text)) words
