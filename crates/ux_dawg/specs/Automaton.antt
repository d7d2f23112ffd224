-- The minimal automaton of a list of forms. The manual, on compressing dictionaries. Public: the
-- crate's public contracts speak of it.
use Rattle.std.specs.Prelude.{◌≡◌, ℕ, ◌<◌, ◌+◌, List, ◌↔◌, Some, slice_get, Contains, length}
use Rattle.ux_dawg.specs.declared.state.State.{State}
use Rattle.ux_dawg.specs.declared.state.Form.{Form}
use Rattle.ux_dawg.specs.Forms.{form_of}
use Rattle.ux_dawg.specs.Paths.{IsPath, IsFit, IsMinimal, HavePaths}
use Rattle.ux_dawg.specs.Order.{IsNumbered}

-- the automaton with this root has exactly these forms and is minimal; steps lead to lower numbers,
-- and the root has the highest
pub record IsAutomaton (forms : List Form) (states : List State) (root : ℕ) : Type 0 where
  pub exact : (w : List ℕ) (c : ℕ) →
      IsPath states root w c ↔ Contains forms (form_of w c)
  pub minimal : IsMinimal states root
  pub numbered : IsNumbered states root
  pub paths : 0 < length forms → HavePaths states
  pub fit : (i : ℕ) (s : State) → slice_get states i ≡ Some s → IsFit i s
  pub last : length states ≡ root + 1

-- the same, with the last state as the root
abbrev pub IsMinimalOf : List Form → List State → Type 0
IsMinimalOf forms states = (root : ℕ) × IsAutomaton forms states root
