-- Answers in flat lists: each is a stretch of a list. Public: the contracts of the chart speak of it.
use Rattle.std.specs.Prelude.{◌≡◌, ℕ, ◌+◌, ◌<◌, ◌≤◌, ◌⊎◌, List, [], ◌∷◌, ◌++◌, Some, slice_get, slice_range, Contains, length}
use Rattle.std.specs.List.{AllPairs}
use Rattle.ux_chart.specs.declared.table.Stretch.{Stretch}
use Rattle.ux_chart.specs.declared.table.Answer.{Answer}
use Rattle.ux_chart.specs.declared.table.Table.{Table}

-- a stretch, by its ends
abbrev pub stretch_of : (from to : ℕ) → Stretch
stretch_of from to = record { from = from; to = to }

-- what stands in the stretch
abbrev pub cut : {A : Type 0} → List A → Stretch → List A
cut items stretch = slice_range items stretch.from stretch.to

-- the stretch is one of a list of this length
pub record IsStretchOf (len : ℕ) (stretch : Stretch) : Type 0 where
  pub from : stretch.from ≤ stretch.to
  pub to : stretch.to ≤ len

-- the answers of a row, each of a later part than those before
abbrev pub AscendByPart : List Answer → Type 0
AscendByPart answers = AllPairs (λ (x y : Answer). x.part < y.part) answers

-- each answer of the table is made of stretches of its lists
pub record IsTable (table : Table) : Type 0 where
  pub ends : (answer : Answer) → Contains table.answers.items answer →
      IsStretchOf (length table.ends.items) answer.ends
  pub closers : (answer : Answer) → Contains table.answers.items answer →
      IsStretchOf (length table.closers.items) answer.closers

-- the row has this answer for the part of this number
pub record HasAnswer (table : Table) (row : Stretch) (part : ℕ) (answer : Answer) : Type 0 where
  pub inside : Contains (cut table.answers.items row) answer
  pub part_is : answer.part ≡ part

-- what a row tells of a part: the ends and closers of its answer, and none where it has no answer
pub record Tells (table : Table) (row : Stretch) (part : ℕ) (ends closers : List ℕ) : Type 0 where
  pub told_ends : (answer : Answer) → HasAnswer table row part answer →
      ends ≡ cut table.ends.items answer.ends
  pub told_closers : (answer : Answer) → HasAnswer table row part answer →
      closers ≡ cut table.closers.items answer.closers
  pub no_ends : ((answer : Answer) → HasAnswer table row part answer → ⊥) → ends ≡ []
  pub no_closers : ((answer : Answer) → HasAnswer table row part answer → ⊥) → closers ≡ []

-- a row of the table, whose answers stand by part
pub record IsSorted (table : Table) (row : Stretch) : Type 0 where
  pub within : IsStretchOf (length table.answers.items) row
  pub ascends : AscendByPart (cut table.answers.items row)

-- lists were added as an answer of a part
pub record IsPushed (old : Table) (part : ℕ) (js cs : List ℕ) (new : Table) : Type 0 where
  pub ends : new.ends.items ≡ old.ends.items ++ js
  pub closers : new.closers.items ≡ old.closers.items ++ cs
  pub answers : new.answers.items ≡ old.answers.items ++ record {
    part = part;
    ends = record { from = length old.ends.items; to = length old.ends.items + length js };
    closers = record { from = length old.closers.items; to = length old.closers.items + length cs };
  } ∷ []

-- they were, unless both are empty
abbrev pub IsPut : Table → ℕ → (js cs : List ℕ) → Table → Type 0
IsPut old part js cs new =
    ((js ≡ []) × (cs ≡ []) × (new ≡ old)) ⊎ IsPushed old part js cs new

-- the ends of none of the answers begin by this position
abbrev pub NoneFrom : List Answer → (positions : List ℕ) → (i : ℕ) → Type 0
NoneFrom answers positions i = (answer : Answer) → Contains answers answer →
    slice_get (cut positions answer.ends) 0 ≡ Some i → ⊥

-- nor those of an answer of the row
abbrev pub NoneEndsFrom : Table → (row : Stretch) → (i : ℕ) → Type 0
NoneEndsFrom table row i = NoneFrom (cut table.answers.items row) table.ends.items i
