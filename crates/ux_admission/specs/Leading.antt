-- The steps of one graph, by the places into which they lead, and what follows from them. Inner: the
-- crate's own functions alone speak of it.
use Rattle.std.specs.Prelude.{◌≡◌, ◌≢◌, ℕ, ◌<◌, ◌↔◌, List, length, get_or, Contains, Bool, true, false}
use Rattle.ux_digraph.specs.Paths.{row_of}
use Rattle.ux_net.specs.declared.label.Label.{Label}
use Rattle.ux_admission.specs.declared.leading.Leading.{Leading}
use Rattle.ux_admission.specs.declared.leading.Marks.{Marks}
use Rattle.ux_boxes.specs.declared.place.Place.{Place}
use Rattle.ux_boxes.specs.Places.{label_lines, place_targets}
use Rattle.ux_net.specs.Words.{Sign, positive, negative, Mark, ordinary, opens, closes, mark_of}

-- one of the lines does this to contexts
abbrev pub HasLine : Mark → List (List Label) → Type 0
HasLine mark lines = (line : List Label) × Contains lines line × (mark_of line ≡ mark)

-- a place is noted as one that has such a line
abbrev pub is_noted : Mark → Marks → Bool
is_noted ordinary marks = marks.ordinary
is_noted (opens positive) marks = marks.positive
is_noted (opens negative) marks = marks.negative
is_noted closes marks = marks.closes

-- what is noted of a place that isn't there
abbrev pub no_marks : Marks
no_marks = record { ordinary = false; positive = false; negative = false; closes = false }

-- it is noted which lines the place has
abbrev pub AreMarks : List (List Label) → Marks → Type 0
AreMarks lines marks = (mark : Mark) → (is_noted mark marks ≡ true) ↔ HasLine mark lines

-- a step leads from the first place into the second, if that has a line
abbrev pub IsSource : List Place → (a b : ℕ) → Type 0
IsSource places a b = (a ≢ 1) × Contains (place_targets places a) b

-- the steps of a graph of these places
pub record IsLeading (places : List Place) (leading : Leading) : Type 0 where
  pub sources_len : length leading.sources.items ≡ length places
  pub marks_len : length leading.marks.items ≡ length places
  pub source : (a b : ℕ) → Contains (row_of leading.sources.items b) a ↔ IsSource places a b
  pub marked : (b : ℕ) → AreMarks (label_lines places b) (get_or leading.marks.items b no_marks)

-- each of the places from which steps lead is there
pub record IsLeadingInside (leading : Leading) : Type 0 where
  pub marks_len : length leading.marks.items ≡ length leading.sources.items
  pub source : (a b : ℕ) → Contains (row_of leading.sources.items b) a →
      a < length leading.sources.items

module _ (leading : Leading) where
  -- a step that does this to contexts leads from the first place into the second
  abbrev pub Leads : Mark → (a b : ℕ) → Type 0
  Leads mark a b = Contains (row_of leading.sources.items b) a
      × (is_noted mark (get_or leading.marks.items b no_marks) ≡ true)

  -- a step that opens a context does
  abbrev pub Opens : (a o : ℕ) → Type 0
  Opens a o = (sign : Sign) × Leads (opens sign) a o

  -- a body that begins at the first place is closed into the second
  pub data Closes : ℕ → ℕ → Type 0 where
    closed : {a c : ℕ} → Leads closes a c → Closes a c
    goes_on : {a b c : ℕ} → Leads ordinary a b → Closes b c → Closes a c
    jumps : {a o d c : ℕ} → Opens a o → Closes o d → Closes d c → Closes a c

  -- a row for each place: those into which bodies from there are closed
  pub record AreClosersIn (rows : List (List ℕ)) : Type 0 where
    pub len : length rows ≡ length leading.sources.items
    pub row : (a c : ℕ) → Contains (row_of rows a) c ↔ Closes a c
