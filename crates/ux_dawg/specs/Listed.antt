-- The forms that the states of a builder hold, in order. Inner: the builder's model alone speaks
-- of it.
use Rattle.std.specs.Prelude.{◌≡◌, ℕ, zero, suc, ◌<◌, ◌+◌, ◌≤◌, List, [], ◌∷◌, ◌++◌, ◌↔◌, Option, Some, None, Contains, flat_map, get_or, length, map}
use Rattle.ux_dawg.specs.declared.state.State.{State}
use Rattle.ux_dawg.specs.declared.state.Edge.{Edge}
use Rattle.ux_dawg.specs.declared.state.Form.{Form}
use Rattle.ux_dawg.specs.declared.pending.Frame.{Frame}
use Rattle.ux_dawg.specs.Forms.{form_of, letters_in, last_letters, AreSorted}
use Rattle.ux_dawg.specs.Building.{Held, letters, bare, IsReady}

-- the form without letters that ends in a state of this code
abbrev pub ending : Option ℕ → List Form
ending None = []
ending (Some c) = form_of [] c ∷ []

-- the form with one more letter in front
abbrev pub behind : ℕ → Form → Form
behind a f = form_of (a ∷ f.letters) f.code

-- the forms of at most n letters that begin in the state
abbrev pub forms_from : ℕ → List State → State → List Form
forms_from zero states s = ending s.code
forms_from (suc n) states s =
    ending s.code
    ++ flat_map (λ (e : Edge).
    map (behind e.letter) (forms_from n states (get_or states e.target bare))) s.edges

-- the forms of at most n letters that begin in the first pending state, or in the deepest
abbrev pub forms_through : ℕ → List State → List Frame → State → List Form
forms_through n states [] top = forms_from n states top
forms_through n states (f ∷ fs) top =
    forms_from n states f.state ++ map (behind f.letter) (forms_through n states fs top)

-- the forms that are held; targets descend, so no word has more steps than there are states
unfoldable pub forms_held : List State → List Frame → State → List Form
forms_held states above top = forms_through (length states) states above top

-- the states hold exactly these forms, and the way to the deepest one spells the last
pub record AreHeld (forms : List Form) (states : List State) (above : List Frame) (top : State) :
    Type 0 where
  pub sorted : AreSorted [] forms
  pub ready : IsReady states above top
  pub held : (w : List ℕ) (c : ℕ) → Held states above top w c ↔ Contains forms (form_of w c)
  pub spelled : letters above ≡ last_letters [] forms
  pub some : 0 < length forms → 0 < length above
  pub room : length states + length above ≤ letters_in forms

-- the states hold the forms of their list, which have so many letters together
pub record IsBuilt (states : List State) (above : List Frame) (top : State) (many : ℕ) :
    Type 0 where
  pub holds : AreHeld (forms_held states above top) states above top
  pub counted : letters_in (forms_held states above top) ≡ many
