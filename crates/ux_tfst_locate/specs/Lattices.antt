-- Sentences side by side: the states of their links at positions, and arcs between them. Inner: the
-- crate's own functions alone speak of it.
use Rattle.std.specs.Prelude.{◌≡◌, ◌↔◌, ℕ, ◌+◌, ◌<◌, ◌≤◌, List, [], ◌∷◌, Some, Contains, get_or, length, slice_get, slice_range}
use Rattle.std.specs.List.Sorted.{IsNonDecreasingBy}
use Rattle.std.specs.Ordering.{nat_cmp, ordering_then}
use Rattle.std.specs.declared.cmp.Ordering.{Ordering}
use Rattle.std.specs.declared.cmp.Ordering.TheVariants.{Less}
use Rattle.ux_tfst_locate.specs.declared.lattice.Arc.{Arc}
use Rattle.ux_tfst_locate.specs.declared.lattice.Lattice.{Lattice}
use Rattle.ux_tfst_locate.specs.declared.lattice.Place.{Place}
use Rattle.ux_tfst_locate.specs.declared.lattice.SentenceLink.{SentenceLink}

-- the states of a link
abbrev pub from_of : SentenceLink → Place
from_of link = record { sentence = link.sentence; state = link.from; last = link.last }

abbrev pub to_of : SentenceLink → Place
to_of link = record { sentence = link.sentence; state = link.to; last = link.last }

abbrev pub ends_of : SentenceLink → List Place
ends_of link = from_of link ∷ to_of link ∷ []

-- places are compared by their sentences, and then by their states
abbrev pub place_cmp : Place → Place → Ordering
place_cmp place other = ordering_then (nat_cmp place.sentence other.sentence)
    (ordering_then (nat_cmp place.state other.state) (nat_cmp place.last other.last))

-- the place stands at the position
abbrev pub IsAt : List Place → ℕ → Place → Type 0
IsAt places i place = slice_get places i ≡ Some place

-- arcs by the position from which they lead
abbrev pub Rows : Type 0
Rows = ℕ → List Arc

-- what leads from a position
abbrev pub row_at : Rows → ℕ → List Arc
row_at rows i = rows i

-- where the arcs of a position begin: nowhere, where none is told
abbrev pub start_at : List ℕ → ℕ → ℕ
start_at starts i = get_or starts i 0

-- the arcs of a lattice, position by position
abbrev pub rows_of : Lattice → Rows
rows_of lattice i = slice_range lattice.arcs.items (start_at lattice.starts.items i)
    (start_at lattice.starts.items (i + 1))

-- the states of the link stand at positions
abbrev pub HasEnds : List Place → SentenceLink → Type 0
HasEnds places link = Contains places (from_of link) × Contains places (to_of link)

-- the arc from the position is that of the link
pub record IsArcOf (places : List Place) (link : SentenceLink) (i : ℕ) (arc : Arc) : Type 0 where
  pub from : IsAt places i (from_of link)
  pub to : IsAt places arc.to (to_of link)
  pub reading : arc.reading ≡ link.reading

-- the list has the arcs of the links, and no other
pub record AreArcs (places : List Place) (links : List SentenceLink) (arcs : List Arc) : Type 0 where
  pub each : (arc : Arc) → Contains arcs arc →
      (link : SentenceLink) × Contains links link × IsArcOf places link arc.from arc
  pub all : (link : SentenceLink) → Contains links link →
      (arc : Arc) × Contains arcs arc × IsArcOf places link arc.from arc

-- the arc at a place of the list leads from this position
abbrev pub from_at : List Arc → ℕ → ℕ
from_at arcs k = (get_or arcs k (record { from = 0; to = 0; reading = 0 })).from

-- the positions from which the arcs lead never fall
abbrev pub AreInOrder : List Arc → Type 0
AreInOrder arcs = IsNonDecreasingBy (λ (arc : Arc). arc.from) arcs

-- the arcs from a start on are those that lead from its position or a later one
abbrev pub IsStart : List Arc → (position start : ℕ) → Type 0
IsStart arcs position start =
    (n : ℕ) → n < length arcs → (start ≤ n) ↔ (position ≤ from_at arcs n)

-- the starts of positions up to those of the first n arcs, in which arcs of these positions begin
pub record AreStartsTo (arcs : List Arc) (n : ℕ) (starts : List ℕ) : Type 0 where
  pub each : (i : ℕ) → i < length starts → IsStart arcs i (start_at starts i)
  pub past : (k : ℕ) → k < n → from_at arcs k < length starts

-- the starts of all positions from which arcs lead, and one for the end
pub record AreStarts (arcs : List Arc) (starts : List ℕ) : Type 0 where
  pub each : (i : ℕ) → i < length starts → IsStart arcs i (start_at starts i)
  pub past : (k : ℕ) → k < length arcs → from_at arcs k + 1 < length starts

-- each position up to this one that had no start has this one
pub record IsStarted (old : List ℕ) (position place : ℕ) (new : List ℕ) : Type 0 where
  pub reached : position < length new
  pub longer : length old ≤ length new
  pub same : (i : ℕ) → i < length old → start_at new i ≡ start_at old i
  pub put : (i : ℕ) → length old ≤ i → i < length new → (start_at new i ≡ place) × (i ≤ position)

-- the rows have the arcs of the links, and no other
pub record HaveArcs (places : List Place) (links : List SentenceLink) (rows : Rows) : Type 0 where
  pub each : (i : ℕ) (arc : Arc) → Contains (row_at rows i) arc →
      (link : SentenceLink) × Contains links link × IsArcOf places link i arc
  pub all : (link : SentenceLink) → Contains links link →
      (i : ℕ) × (arc : Arc) × Contains (row_at rows i) arc × IsArcOf places link i arc

-- a place that stands at an earlier position is less
abbrev pub AreRising : List Place → Type 0
AreRising places = (i j : ℕ) (one other : Place) → i < j → IsAt places i one →
    IsAt places j other → place_cmp one other ≡ Less

-- the positions are those of the links' states, and the arcs are the links
pub record IsLattice (links : List SentenceLink) (lattice : Lattice) : Type 0 where
  pub rising : AreRising lattice.places.items
  pub owned : (i : ℕ) (place : Place) → IsAt lattice.places.items i place →
      (link : SentenceLink) × Contains links link × Contains (ends_of link) place
  pub arcs : HaveArcs lattice.places.items links (rows_of lattice)
