-- A walk through an automaton. Inner: the crate's own functions alone speak of it.
use Rattle.std.specs.Prelude.{ℕ, ◌+◌, ◌<◌, ◌≤◌, List, [], ◌∷◌, ◌++◌, All, flat_map, length, map, sum_by, take}
use Rattle.ux_dawg.specs.declared.state.Edge.{Edge}
use Rattle.ux_dawg.specs.declared.state.Form.{Form}
use Rattle.ux_dawg.specs.declared.state.State.{State}
use Rattle.ux_image_look_ups.specs.Ways.{behind_all, forms_at}
use Rattle.ux_image_lexicon.specs.declared.walk.Branch.{Branch}

-- the state to which the edge leads from one that so many letters lead to
abbrev pub branch_by : (depth : ℕ) → Edge → Branch
branch_by depth edge = record { depth = depth; letter = edge.letter; state = edge.target }

-- the letters that lead to it
abbrev pub word_of : (letters : List ℕ) → Branch → List ℕ
word_of letters branch = take branch.depth letters ++ branch.letter ∷ []

-- the forms that begin with these letters and go on from the state of this number
abbrev pub forms_behind : List State → (letters : List ℕ) → ℕ → List Form
forms_behind states letters number = map (behind_all letters) (forms_at states number)

-- the forms to which the walk didn't come yet
abbrev pub forms_left : List State → (letters : List ℕ) → List Branch → List Form
forms_left states letters branches =
    flat_map (λ (branch : Branch). forms_behind states (word_of letters branch) branch.state) branches

-- none is behind fewer letters than one before it
abbrev pub AreRising : List Branch → Type 0
AreRising [] = Unit {0}
AreRising (branch ∷ branches) =
    All (λ (other : Branch). branch.depth ≤ other.depth) branches × AreRising branches

-- each state that is left is one below the root, behind a front of the letters
pub record IsWalk (states : List State) (letters : List ℕ) (branches : List Branch) : Type 0 where
  pub within : All (λ (branch : Branch). branch.state + 1 < length states) branches
  pub front : All (λ (branch : Branch). branch.depth ≤ length letters) branches
  pub rising : AreRising branches

-- how many letters and ends the forms have that begin in the state of this number
abbrev pub letters_from : List State → ℕ → ℕ
letters_from states number = sum_by (λ (form : Form). 1 + length form.letters) (forms_at states number)

-- and in all states that are left
abbrev pub letters_left : List State → List Branch → ℕ
letters_left states branches =
    sum_by (λ (branch : Branch). letters_from states branch.state) branches
