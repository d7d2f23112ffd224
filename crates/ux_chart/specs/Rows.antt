-- What the rows of a chart tell, and how far it is filled. Public: the contracts of the chart speak
-- of it.
use Rattle.std.specs.Prelude.{◌≡◌, ℕ, ◌+◌, ◌-◌, ◌<◌, ◌≤◌, ◌↔◌, ◌⊎◌, List, [], Some, None, slice_get, Contains, length}
use Rattle.std.specs.List.Sorted.{IsStrictlyIncreasing}
use Rattle.ux_net.specs.declared.net_graph.NetGraph.{NetGraph}
use Rattle.ux_net.specs.Nets.{net_grammar}
use Rattle.ux_meaning.specs.Inputs.{Input}
use Rattle.ux_parts.specs.declared.part.Part.{Part}
use Rattle.ux_parts.specs.declared.parts.Parts.{Parts}
use Rattle.ux_parts.specs.Parts.{number_of}
use Rattle.ux_parts.specs.Runs.{Ends, Closes}
use Rattle.ux_parts.specs.Ordered.{GoesAhead}
use Rattle.ux_chart.specs.declared.table.Stretch.{Stretch}
use Rattle.ux_chart.specs.declared.table.Answer.{Answer}
use Rattle.ux_chart.specs.declared.table.Table.{Table}
use Rattle.ux_chart.specs.declared.chart.Chart.{Chart}
use Rattle.ux_chart.specs.declared.chart.Begun.{Begun}
use Rattle.ux_chart.specs.Tables.{IsTable, IsSorted, HasAnswer, Tells}

module _ (input : Input) (net : List NetGraph) (parts : Parts) where
  -- exactly the ends and the closers that a state of graph g reaches from position i, ascending
  pub record IsAnswer (g state i : ℕ) (js cs : List ℕ) : Type 0 where
    pub ends : (j : ℕ) → Contains js j ↔ Ends input (net_grammar net) parts.levels g state i j
    pub closers : (c : ℕ) → Contains cs c ↔ Closes input (net_grammar net) parts.levels g state i c
    pub ends_ascend : IsStrictlyIncreasing js
    pub closers_ascend : IsStrictlyIncreasing cs

  -- the row of position i, in which the parts below a number are done
  pub record IsRow (table : Table) (row : Stretch) (i bound : ℕ) : Type 0 where
    pub sorted : IsSorted table row
    pub below : (number : ℕ) (answer : Answer) → HasAnswer table row number answer → number < bound
    pub right : (number : ℕ) (part : Part) (js cs : List ℕ) → number < bound →
        slice_get parts.list number ≡ Some part → Tells table row number js cs →
        IsAnswer part.graph part.first i js cs

  -- the row, in which all parts are done
  abbrev pub IsWholeRow : Table → Stretch → ℕ → Type 0
  IsWholeRow table row i = (bound : ℕ) × (length parts.list ≤ bound) × IsRow table row i bound

  -- the rows of the positions from the last one back, each whole
  abbrev pub AreRows : (last : ℕ) → List Stretch → Table → Type 0
  AreRows last rows table = (place : ℕ) (row : Stretch) → slice_get rows place ≡ Some row →
      IsWholeRow table row (last - place)

  -- some positions are done, from the last one back
  pub record AreBegun (chart : Chart) : Type 0 where
    pub few : length chart.rows.items ≤ chart.last + 1
    pub table_is : IsTable chart.table
    pub done : AreRows chart.last chart.rows.items chart.table

  -- all positions behind that of the begun row are done, and at it the parts before the one whose
  -- turn it is
  pub record IsFilled (chart : Chart) (begun : Begun) : Type 0 where
    pub count : length chart.rows.items + begun.at ≡ chart.last
    pub table_is : IsTable chart.table
    pub done : AreRows chart.last chart.rows.items chart.table
    pub begun_is : IsRow chart.table begun.row begun.at begun.number

  -- all positions are done
  pub record IsChart (last : ℕ) (chart : Chart) : Type 0 where
    pub ahead : GoesAhead input last
    pub last_is : chart.last ≡ last
    pub count : length chart.rows.items ≡ last + 1
    pub table_is : IsTable chart.table
    pub done : AreRows last chart.rows.items chart.table

-- a begun row, by its parts
abbrev pub begun_at : (at number from to : ℕ) → Begun
begun_at at number from to =
    record { at = at; number = number; row = record { from = from; to = to } }

-- the table is one, and each row of it stands by part
pub record IsLaidOut (chart : Chart) : Type 0 where
  pub table_is : IsTable chart.table
  pub sorted : (place : ℕ) (row : Stretch) → slice_get chart.rows.items place ≡ Some row →
      IsSorted chart.table row

-- the row of position i: that which is begun, or one of those that are done
abbrev pub IsRowAt : Chart → Begun → (i : ℕ) → Stretch → Type 0
IsRowAt chart begun i row =
    ((i ≡ begun.at) × (row ≡ begun.row))
    ⊎ (slice_get chart.rows.items (chart.last - i) ≡ Some row)

-- what a row tells of the part that begins at a state, and nothing where none begins there
pub record AreTold (parts : Parts) (table : Table) (row : Stretch) (g state : ℕ)
    (js cs : List ℕ) : Type 0 where
  pub part : (number : ℕ) → number_of parts g state ≡ Some number → Tells table row number js cs
  pub no_ends : number_of parts g state ≡ None → js ≡ []
  pub no_closers : number_of parts g state ≡ None → cs ≡ []
