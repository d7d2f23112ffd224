-- The image of a content: the minimal automaton of its forms, and their lists of codes. The manual,
-- on compressing dictionaries. Public: the crate's public contracts speak of it.
use Rattle.std.specs.Prelude.{◌≡◌, ℕ, List, Some, nat_eq, map, slice_get, option_map}
use Rattle.std.specs.List.{filter_map, position_or_len}
use Rattle.std.specs.Str.{chars}
use Rattle.ux_base.specs.Distinct.{AreFirsts}
use Rattle.ux_dawg.specs.Automaton.{IsMinimalOf}
use Rattle.ux_dawg.specs.declared.state.Form.{Form}
use Rattle.ux_dawg.specs.declared.state.State.{State}
use Rattle.ux_dela.specs.declared.entry.Entry.{Entry}
use Rattle.ux_image.specs.Contents.{AreForms, forms_with_codes}
use Rattle.ux_image.specs.Layout.{layout, AllFit, StateFits, ListFits}
use Rattle.ux_image.specs.declared.code.CodeList.{CodeList}

-- the numbers of the final states, in order of state
abbrev pub numbers_in : List State → List ℕ
numbers_in states = filter_map (λ (state : State). state.code) states

-- the state, where its number is now the place of the old one
abbrev pub renumbered : List ℕ → State → State
renumbered order state = record {
  code = option_map (λ number. position_or_len (nat_eq number) order) state.code;
  edges = state.edges;
}

-- the lists of these numbers
abbrev pub lists_of : List CodeList → List ℕ → List CodeList
lists_of lists numbers = filter_map (λ number. slice_get lists number) numbers

-- the bytes lay out the states and the lists, and 32 bits hold each number
pub record IsLaidOut (states : List State) (lists : List CodeList) (bytes : List ℕ) : Type 0 where
  pub states_fit : AllFit StateFits states
  pub lists_fit : AllFit ListFits lists
  pub whole : bytes ≡ layout states lists

-- the bytes lay out the minimal automaton of the content's forms and their lists of codes, whose
-- numbers follow the order in which states use them first
pub record IsImage (content : List Entry) (bytes : List ℕ) : Type 0 where
  pub lists : List CodeList
  pub forms : List Form
  pub are_forms : AreForms content lists forms
  pub states : List State
  pub minimal : IsMinimalOf forms states
  pub order : List ℕ
  pub first_used : AreFirsts (numbers_in states) order
  pub laid_out : IsLaidOut (map (renumbered order) states) (lists_of lists order) bytes

-- the bytes lay out a minimal automaton that has each form of the content, with the number of its
-- list of codes, and no other form
pub record Tells (content : List Entry) (bytes : List ℕ) : Type 0 where
  pub states : List State
  pub lists : List CodeList
  pub forms : List Form
  pub laid_out : IsLaidOut states lists bytes
  pub minimal : IsMinimalOf forms states
  pub letters : map (λ form. form.letters) forms
      ≡ map (λ group. chars group.0) (forms_with_codes content)
  pub numbers : map (λ form. slice_get lists form.code) forms
      ≡ map (λ group. Some group.1) (forms_with_codes content)
