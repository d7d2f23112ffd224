-- The box lines of a graph, and the targets of its boxes. Public, through `File` and `Content`.
use Rattle.std.specs.Prelude.{◌≡◌, ℕ, ◌<◌, Bool, true, false, nat_lt, List, [], Option, None, Some, slice_get, length, slice_index, get_or, ◌≤◌, Contains}
use Rattle.std.specs.List.{list_all}
use Rattle.ux_base.specs.Distinct.{AreFirsts}
use Rattle.ux_grf.specs.declared.error.GrfError.{GrfError}
use Rattle.ux_grf.specs.declared.error.GrfError.TheVariants.{NoHeader, BadCount, BadBoxLine, BadTarget, BadContent, NoMemory}
use Rattle.ux_grf.specs.BoxLine.{BoxText, box_of}

-- what a line says, where there is one
abbrev pub box_in_line : Option (List ℕ) → Option BoxText
box_in_line None = None
box_in_line (Some line) = box_of line

abbrev pub box_at : List (List ℕ) → ℕ → Option BoxText
box_at lines node = box_in_line (slice_get lines node)

-- each target is a box
abbrev pub is_inside : ℕ → List ℕ → Bool
is_inside count targets = list_all (λ t. nat_lt t count) targets

-- there is a box line, whose targets are boxes
abbrev pub is_good : ℕ → Option BoxText → Bool
is_good count None = false
is_good count (Some text) = is_inside count text.targets

-- what a box line tells of its box: the content, and each target once
abbrev pub IsTextOf : Option BoxText → BoxText → Type 0
IsTextOf None text = ⊥
IsTextOf (Some said) text = (text.content ≡ said.content) × AreFirsts said.targets text.targets

-- there is a box line, and one of its targets is no box
abbrev pub HasBadTarget : ℕ → Option BoxText → Type 0
HasBadTarget count None = ⊥
HasBadTarget count (Some text) = is_inside count text.targets ≡ false

-- why the line of one box is refused
abbrev pub RefusesBox : ℕ → ℕ → Option BoxText → GrfError → Type 0
RefusesBox count node box NoHeader = ⊥
RefusesBox count node box BadCount = ⊥
RefusesBox count node box (BadBoxLine n) = (n ≡ node) × (box ≡ None)
RefusesBox count node box (BadTarget n) = (n ≡ node) × HasBadTarget count box
RefusesBox count node box (BadContent n place) = ⊥
RefusesBox count node box NoMemory = Unit {0}

-- the lines before this box are box lines, whose targets are boxes
abbrev pub AreGood : ℕ → List (List ℕ) → ℕ → Type 0
AreGood count lines node = (m : ℕ) → m < node → is_good count (box_at lines m) ≡ true

-- why the box lines are refused: the first bad one is
abbrev pub RefusesBoxes : ℕ → List (List ℕ) → GrfError → Type 0
RefusesBoxes count lines NoHeader = ⊥
RefusesBoxes count lines BadCount = ⊥
RefusesBoxes count lines (BadBoxLine n) =
    (n < count) × AreGood count lines n × (box_at lines n ≡ None)
RefusesBoxes count lines (BadTarget n) =
    (n < count) × AreGood count lines n × HasBadTarget count (box_at lines n)
RefusesBoxes count lines (BadContent n place) = ⊥
RefusesBoxes count lines NoMemory = Unit {0}

-- the text of a box, which says nothing where there is none
abbrev pub text_at : List BoxText → ℕ → BoxText
text_at texts node = get_or texts node (record { content = []; targets = [] })

-- what the lines tell of so many boxes
pub record AreTexts (count : ℕ) (lines : List (List ℕ)) (texts : List BoxText) : Type 0 where
  pub len : length texts ≡ count
  pub each : (node : ℕ) → node < count → IsTextOf (box_at lines node) (text_at texts node)

-- for each target met so far, and for no other box, the stamp stands at its place
pub record Stamped (count stamp : ℕ) (stamps kept : List ℕ) : Type 0 where
  pub len : length stamps ≡ count
  pub stamped : (u : ℕ) → u < count → slice_index stamps u ≡ stamp →
      Contains kept u
  pub fresh : (u : ℕ) → u < count → (slice_index stamps u ≡ stamp → ⊥) →
      Contains kept u → ⊥
  pub below : (u : ℕ) → slice_index stamps u ≤ stamp
