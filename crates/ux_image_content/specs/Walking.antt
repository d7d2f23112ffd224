-- A walk through an automaton, and what it makes of the forms. Inner: the crate's own functions
-- alone speak of it.
use Rattle.std.specs.Prelude.{◌≡◌, ℕ, zero, suc, ◌+◌, ◌<◌, List, [], ◌∷◌, ◌++◌, Option, None, Some, All, drop, flat_map, get_or, length, map, sum_by}
use Rattle.ux_dawg.specs.Building.{bare}
use Rattle.ux_dawg.specs.Forms.{form_of}
use Rattle.ux_dawg.specs.Listed.{behind, forms_from}
use Rattle.ux_dawg.specs.declared.state.Edge.{Edge}
use Rattle.ux_dawg.specs.declared.state.Form.{Form}
use Rattle.ux_dawg.specs.declared.state.State.{State}
use Rattle.ux_dela.specs.declared.entry.Entry.{Entry}
use Rattle.ux_image.specs.declared.code.Code.{Code}
use Rattle.ux_image.specs.declared.code.CodeList.{CodeList}
use Rattle.ux_image.specs.declared.code.Pair.{Pair}
use Rattle.ux_image_lists.specs.Lists.{ArePrinted, IsText}
use Rattle.ux_image_content.specs.Contents.{AreRebuilt}
use Rattle.ux_image_content.specs.declared.walk.Frame.{Frame}
use Rattle.ux_image_content.specs.declared.walk.Walk.{Walk}

-- the forms that begin with one of the edges
abbrev pub branches : List State → List Edge → List Form
branches states edges =
    flat_map (λ (e : Edge).
    map (behind e.letter) (forms_from (length states) states (get_or states e.target bare))) edges

-- the edges that weren't taken
abbrev pub edges_left : List State → Frame → List Edge
edges_left states frame = drop frame.place (get_or states frame.state bare).edges

-- the forms to which the walk didn't come yet, where the letters lead from each state on its way to
-- the next: those of the deeper states, and then those of the edges that weren't taken
unfoldable pub forms_left : List State → List Frame → (letters : List ℕ) → List Form
forms_left states [] letters = []
forms_left states (frame ∷ stack) [] = branches states (edges_left states frame)
forms_left states (frame ∷ stack) (a ∷ letters) =
    map (behind a) (forms_left states stack letters) ++ branches states (edges_left states frame)

-- the form that ends in a state of this code
abbrev pub ended : (letters : List ℕ) → Option ℕ → List Form
ended letters None = []
ended letters (Some code) = form_of letters code ∷ []

-- how many steps the walk takes in a state at most, where no more than n edges lead on from it
abbrev pub steps_from : ℕ → List State → State → ℕ
steps_from zero states s = 2
steps_from (suc n) states s =
    2 + sum_by (λ (e : Edge). steps_from n states (get_or states e.target bare)) s.edges

-- how many steps are left
abbrev pub steps_left : List State → List Frame → ℕ
steps_left states stack =
    sum_by (λ frame. 1
    + sum_by (λ (e : Edge). steps_from (length states) states (get_or states e.target bare))
    (edges_left states frame)) stack

-- the numbers of the states on the way are those of states, and a letter leads to each but the
-- first
pub record IsWay (states : List State) (stack : List Frame) (letters : List ℕ) : Type 0 where
  pub within : All (λ frame. frame.state < length states) stack
  pub long : 0 < length stack → length stack ≡ length letters + 1

-- the edge is the next of those that weren't taken, and then the state is as behind it
pub record IsNext (states : List State) (frame : Frame) (edge : Edge) (past : Frame) : Type 0 where
  pub edges : edges_left states frame ≡ edge ∷ edges_left states past
  pub same : past.state ≡ frame.state
  pub target : edge.target < length states

-- the form of the letters was listed, if there is one
pub record Lists (code : Option ℕ) (old new : Walk) : Type 0 where
  pub forms : new.forms.items ≡ old.forms.items ++ ended old.letters.items code
  pub stack : new.stack.items ≡ old.stack.items
  pub letters : new.letters.items ≡ old.letters.items

-- the walk entered the state: a form that ends there was listed
pub record Enters (states : List State) (number : ℕ) (old new : Walk) : Type 0 where
  pub forms : new.forms.items
      ≡ old.forms.items ++ ended old.letters.items (get_or states number bare).code
  pub stack : new.stack.items ≡ old.stack.items ++ record { state = number; place = 0 } ∷ []
  pub letters : new.letters.items ≡ old.letters.items

-- the walk went on from the last state on its way
pub record GoesOn (states : List State) (frame : Frame) (old new : Walk) : Type 0 where
  pub way : IsWay states new.stack.items new.letters.items
  pub forms : new.forms.items ++ forms_left states new.stack.items new.letters.items
      ≡ old.forms.items
      ++ forms_left states (old.stack.items ++ frame ∷ []) old.letters.items
  pub less : steps_left states new.stack.items
      < steps_left states (old.stack.items ++ frame ∷ [])

-- how many bytes the pairs add
abbrev pub added_by : List Pair → ℕ
added_by pairs = sum_by (λ (pair : Pair). length pair.added) pairs

-- the code is as images have them: its codes are such as are printed, and the texts that it adds are
-- UTF-8 without a line feed
pub record IsGood (code : Code) : Type 0 where
  pub printed : ArePrinted code.codes
  pub texts : All (λ (pair : Pair). IsText pair.added) code.pairs

abbrev pub AreCodes : List Code → Type 0
AreCodes codes = All IsGood codes

-- the codes of each list are
abbrev pub AreLists : List CodeList → Type 0
AreLists lists = All (λ (list : CodeList). AreCodes list.codes) lists

-- what these codes make of their forms stands behind the entries
abbrev pub Adds : List (List ℕ × Code) → (old new : List Entry) → Type 0
Adds told old new = (made : List Entry) × AreRebuilt told made × (new ≡ old ++ made)
