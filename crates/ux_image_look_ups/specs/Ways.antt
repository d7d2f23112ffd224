-- Ways through an automaton, and the forms that begin by them. The manual, on the application of
-- dictionaries: a lower-case letter of a dictionary also fits its upper-case forms. Public: the
-- crate's public contracts speak of it.
use Rattle.std.specs.Prelude.{◌≡◌, ◌↔◌, ℕ, ◌+◌, ◌-◌, ◌<◌, List, ◌++◌, Contains, flat_map, get_or, length, map}
use Rattle.std.specs.List.{AllZip}
use Rattle.ux_alphabet.specs.Letters.{Letters, Fits}
use Rattle.ux_dawg.specs.Building.{bare}
use Rattle.ux_dawg.specs.Forms.{form_of}
use Rattle.ux_dawg.specs.Listed.{behind, forms_from}
use Rattle.ux_dawg.specs.Paths.{Leads}
use Rattle.ux_dawg.specs.declared.state.Edge.{Edge}
use Rattle.ux_dawg.specs.declared.state.Form.{Form}
use Rattle.ux_dawg.specs.declared.state.State.{State}

-- a way from the root: its letters, and the state to which they lead
pub record Spelt : Type 0 where
  pub letters : List ℕ
  pub state : ℕ

-- the form with these letters in front
abbrev pub behind_all : (letters : List ℕ) → Form → Form
behind_all letters form = form_of (letters ++ form.letters) form.code

-- the forms that begin in the state of this number
abbrev pub forms_at : List State → ℕ → List Form
forms_at states number = forms_from (length states) states (get_or states number bare)

-- the forms that begin by the way
abbrev pub forms_by : List State → Spelt → List Form
forms_by states way = map (behind_all way.letters) (forms_at states way.state)

-- the forms that begin with one of the edges
abbrev pub branches : List State → List Edge → List Form
branches states edges = flat_map (λ (e : Edge). map (behind e.letter) (forms_at states e.target)) edges

-- the form's letters fit the text, one by one
abbrev pub FitsText : Letters → (text : List ℕ) → Form → Type 0
FitsText alphabet text form = AllZip (Fits alphabet) form.letters text

-- the form begins with letters that fit these, one by one
abbrev pub BeginsFitting : Letters → (front : List ℕ) → Form → Type 0
BeginsFitting alphabet front form = (fitting rest : List ℕ)
    × AllZip (Fits alphabet) fitting front × (form.letters ≡ fitting ++ rest)

-- some form begins with letters that fit the text
abbrev pub MayBegin : Letters → (text : List ℕ) → List Form → Type 0
MayBegin alphabet text forms = (form : Form) × Contains forms form × BeginsFitting alphabet text form

-- from each state but the root there is a form
abbrev pub HaveForms : List State → Type 0
HaveForms states = (i : ℕ) → i + 1 < length states → 0 < length (forms_at states i)

-- letters that fit the text lead from the root to the state, and some form goes on from there
pub record IsReached (states : List State) (alphabet : Letters) (text : List ℕ) (state : ℕ) :
    Type 0 where
  pub letters : List ℕ
  pub fit : AllZip (Fits alphabet) letters text
  pub lead : Leads states (length states - 1) letters state
  pub some : 0 < length (forms_at states state)

-- the text leads to the place: it has just these states
abbrev pub LeadsBy : List State → Letters → (text : List ℕ) → (place : List ℕ) → Type 0
LeadsBy states alphabet text place =
    (state : ℕ) → Contains place state ↔ IsReached states alphabet text state
