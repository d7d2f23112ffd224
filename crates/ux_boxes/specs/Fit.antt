-- What is asked of boxes whose lines are split, before states are made of them. Inner: the crates
-- that make nets alone speak of it.
use Rattle.std.specs.Prelude.{◌≡◌, ◌≢◌, ℕ, ◌<◌, ◌≤◌, ◌↔◌, ◌⊎◌, true, false, List, [], ◌∷◌, All, length, map, Contains, Bool}
use Rattle.ux_grf.specs.Reached.{ways_of, Reached}
use Rattle.ux_net.specs.declared.label.Label.{Label}
use Rattle.ux_net.specs.declared.label.Label.TheVariants.{Empty, Positive, Negative, ContextEnd, Call}
use Rattle.ux_boxes.specs.declared.place.Place.{Place}
use Rattle.ux_boxes.specs.Places.{label_lines, place_targets, is_reached}
use Rattle.ux_net.specs.Nets.{IsCalled}

-- a label that calls a graph
abbrev pub is_call : Label → Bool
is_call (Call graph) = true
is_call other = false

-- a label that opens or closes a context
abbrev pub is_mark : Label → Bool
is_mark Positive = true
is_mark Negative = true
is_mark ContextEnd = true
is_mark other = false

-- A line has a label, and where it has several, none of them is a call, nor opens or closes a
-- context.
pub record IsLine (labels : List Label) : Type 0 where
  pub some : 0 < length labels
  pub lone : 1 < length labels → All (λ (label : Label). is_call label ≡ false) labels
  pub marks : 1 < length labels → All (λ (label : Label). is_mark label ≡ false) labels

-- a line, in which each call is of a graph that is there
pub record IsFitLine (count : ℕ) (labels : List Label) : Type 0 where
  pub line : IsLine labels
  pub called : All (IsCalled count) labels

abbrev pub place_ways : List Place → List (List ℕ)
place_ways places = ways_of (map (λ (place : Place). place.targets) places)

-- each target of a place is a place
abbrev pub HasTargetsInside : List Place → Type 0
HasTargetsInside places = (a b : ℕ) → Contains (place_targets places a) b → b < length places

-- the places of one graph of a list of so many
pub record IsFit (count : ℕ) (places : List Place) : Type 0 where
  pub two : 2 ≤ length places
  pub start : label_lines places 0 ≡ (Empty ∷ []) ∷ []
  pub lines : (n : ℕ) → All (IsFitLine count) (label_lines places n)
  pub inside : HasTargetsInside places

-- The places that are reached are those to which targets lead from the start, and but for the end
-- they are those that have lines.
pub record HasLinesWhereReached (places : List Place) : Type 0 where
  pub bare : (n : ℕ) → (n ≡ 1) ⊎ (is_reached places n ≡ false) → label_lines places n ≡ []
  pub lined : (n : ℕ) → is_reached places n ≡ true → n ≢ 1 → 0 < length (label_lines places n)
  pub reached : (n : ℕ) → n < length places →
      (is_reached places n ≡ true) ↔ Reached (place_ways places) n
