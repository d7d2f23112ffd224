-- Forms by links, level by level. Inner: the crate's own functions alone speak of it.
use Rattle.std.specs.Prelude.{◌≡◌, ℕ, zero, suc, ◌+◌, ◌-◌, ◌<◌, List, [], ◌∷◌, ◌++◌, ◌⊎◌, Contains, Option, None, Some, Vec, drop, get_or, length, map, slice_get}
use Rattle.std.specs.BTreeMap.{BTreeMap, get}
use Rattle.std.specs.Ordering.{nat_cmp}
use Rattle.ux_alphabet.specs.Letters.{Letters, Fits}
use Rattle.ux_dawg.specs.Building.{bare}
use Rattle.ux_dawg.specs.Forms.{form_of}
use Rattle.ux_dawg.specs.Listed.{behind}
use Rattle.ux_dawg.specs.declared.state.Edge.{Edge}
use Rattle.ux_dawg.specs.declared.state.Form.{Form}
use Rattle.ux_dawg.specs.declared.state.State.{State}
use Rattle.ux_dict.specs.Forms.{IsChosen}
use Rattle.ux_image_look_ups.specs.Steps.{GoesTo}
use Rattle.ux_image_look_ups.specs.Ways.{branches, forms_at, FitsText}
use Rattle.ux_image_look_ups.specs.declared.spelling.Link.{Link}
use Rattle.ux_image_look_ups.specs.declared.spelling.Link.TheVariants.{End, Letter}
use Rattle.ux_image_look_ups.specs.declared.steps.Taken.{Taken}

-- the values at the places from 0 on
abbrev pub table : {X : Type 0} → (ℕ → X) → (end : ℕ) → List X
table at zero = []
table at (suc end) = table at end ++ at end ∷ []

-- the links of a list; none, where there is no list
abbrev pub links_in : {Z : Type 0} → Option (Vec Link Z) → List Link
links_in None = []
links_in (Some links) = links.items

-- the links of a state
abbrev pub links_of : {Z : Type 0} → BTreeMap ℕ (Vec Link Z) → (state : ℕ) → List Link
links_of row state = links_in (get nat_cmp row state)

-- the link at a place
abbrev pub link_at : List Link → (place : ℕ) → Link
link_at links place = get_or links place (End 0)

-- the link of a state in which a form ends, if one does
abbrev pub at_end : Option ℕ → List Link
at_end None = []
at_end (Some code) = End code ∷ []

-- the link by the letter in front of one of the state
abbrev pub links_to : (letter state : ℕ) → (place : ℕ) → Link
links_to letter state place = Letter letter state place

-- the links of a state in a row; none, where there is no row
abbrev pub links_in_row : {Z : Type 0} → Option (BTreeMap ℕ (Vec Link Z)) → (state : ℕ) → List Link
links_in_row None state = []
links_in_row (Some row) state = links_of row state

abbrev pub row_links : {Z : Type 0} → List (BTreeMap ℕ (Vec Link Z)) → (row state : ℕ) → List Link
row_links rows row state = links_in_row (slice_get rows row) state

-- the form by a link, by those of the states behind it
abbrev pub link_form : (deep : (state place : ℕ) → Form) → Link → Form
link_form deep (End code) = form_of [] code
link_form deep (Letter letter state place) = behind letter (deep state place)

-- the form by a link of a state in the last of the first n rows
abbrev pub form_at : {Z : Type 0} → (n : ℕ) → List (BTreeMap ℕ (Vec Link Z)) →
    (state place : ℕ) → Form
form_at zero rows state place = form_of [] 0
form_at (suc n) rows state place =
    link_form (form_at n rows) (link_at (row_links rows n state) place)

-- the levels have the states to which the first n characters of the text lead one by one, from the
-- root on
pub record AreLevelsTo (n : ℕ) (states : List State) (alphabet : Letters) (text : List ℕ)
    (levels : List (List ℕ)) : Type 0 where
  pub many : length levels ≡ n + 1
  pub first : Contains (get_or levels 0 []) (length states - 1)
  pub within : (i s : ℕ) → Contains (get_or levels i []) s → s < length states
  pub goes : (i : ℕ) → i < n → (source target : ℕ) → Contains (get_or levels i []) source →
      GoesTo states alphabet (get_or text i 0) source target →
      Contains (get_or levels (i + 1) []) target

-- so do all of it
abbrev pub AreLevels : List State → Letters → (text : List ℕ) → (levels : List (List ℕ)) → Type 0
AreLevels states alphabet text levels = AreLevelsTo (length text) states alphabet text levels

-- the row tells of each state of the level whether a form ends there
abbrev pub TellsEnds : {Z : Type 0} → List State → (level : List ℕ) → BTreeMap ℕ (Vec Link Z) →
    Type 0
TellsEnds states level row = (s : ℕ) → Contains level s →
    links_of row s ≡ at_end (get_or states s bare).code

-- the links by the edges stand for the forms that go on by them and fit the character and a text,
-- where the links of each target stand for those that fit the text
abbrev pub Spells : {Z : Type 0} → Taken → BTreeMap ℕ (Vec Link Z) → List Edge → List Link → Type 0
Spells taken row edges links =
    (states : List State) (rest : List ℕ) (deep : (state place : ℕ) → Form) →
    ((e : Edge) → Contains edges e → Fits taken.alphabet.now e.letter taken.c →
    IsChosen (FitsText taken.alphabet.now rest) (forms_at states e.target)
    (table (deep e.target) (length (links_of row e.target)))) →
    IsChosen (FitsText taken.alphabet.now (taken.c ∷ rest)) (branches states edges)
    (map (link_form deep) links)

-- the row has links of each state of the level that stand for such forms
abbrev pub TellsRow : {Y Z : Type 0} → List State → Taken → BTreeMap ℕ (Vec Link Z) →
    (level : List ℕ) → BTreeMap ℕ (Vec Link Y) → Type 0
TellsRow states taken next level row = (s : ℕ) → Contains level s →
    Spells taken next (get_or states s bare).edges (links_of row s)

-- the links by the edge stand last, where the edge fits the character
abbrev pub PutsLinks : {Z : Type 0} → Taken → BTreeMap ℕ (Vec Link Z) → Edge →
    (old new : List Link) → Type 0
PutsLinks taken row edge old new =
    (Fits taken.alphabet.now edge.letter taken.c × (new ≡ old
    ++ table (links_to edge.letter edge.target) (length (links_of row edge.target))))
    ⊎ ((Fits taken.alphabet.now edge.letter taken.c → ⊥) × (new ≡ old))

-- the rows are those of all levels but the first ones that are left, and the last row has for each
-- state of its level links for the forms that fit the rest of the text
pub record Tells {Z : Type 0} (states : List State) (alphabet : Letters) (text : List ℕ)
    (levels : List (List ℕ)) (left : ℕ) (rows : List (BTreeMap ℕ (Vec Link Z))) : Type 0 where
  pub many : length rows + left ≡ length text + 1
  pub told : (s : ℕ) → Contains (get_or levels left []) s →
      IsChosen (FitsText alphabet (drop left text)) (forms_at states s)
      (table (form_at (length rows) rows s) (length (row_links rows (length rows - 1) s)))
