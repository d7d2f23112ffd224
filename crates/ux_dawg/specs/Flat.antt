-- States whose edges stand in one list. Public: the crate's public contracts speak of it.
use Rattle.std.specs.Prelude.{◌≡◌, ℕ, zero, suc, ◌-◌, ◌≤◌, List, [], ◌∷◌, ◌++◌, ◌+◌, Option, Some, None, drop, length, take}
use Rattle.ux_dawg.specs.declared.state.Edge.{Edge}
use Rattle.ux_dawg.specs.declared.state.State.{State}
use Rattle.ux_dawg.specs.declared.states.Row.{Row}

-- the state with this number of a list and these edges
abbrev pub state_of : Option ℕ → List Edge → State
state_of code edges = record { code = code; edges = edges }

-- the number of a list in the mark of a row, which is one more; 0 means none
abbrev pub code_in : (mark : ℕ) → Option ℕ
code_in zero = None
code_in (suc code) = Some code

-- the edges from one place to another
abbrev pub between : (start end : ℕ) → List Edge → List Edge
between start end edges = take (end - start) (drop start edges)

-- the states of rows, of which the first one's edges begin at the start
abbrev pub states_from : (start : ℕ) → List Row → List Edge → List State
states_from start [] edges = []
states_from start (row ∷ rows) edges =
    state_of (code_in row.mark) (between start row.end edges) ∷ states_from row.end rows edges

-- no row ends before the one in front of it, and the last one ends where so many edges do
abbrev pub AreRows : (start many : ℕ) → List Row → Type 0
AreRows start many [] = start ≡ many
AreRows start many (row ∷ rows) = (start ≤ row.end) × AreRows row.end many rows

-- where the edges of the row of this number begin
abbrev pub start_at : (start : ℕ) → List Row → (number : ℕ) → ℕ
start_at start rows zero = start
start_at start [] (suc number) = start
start_at start (row ∷ rows) (suc number) = start_at row.end rows number

-- a row for these edges was put last, and they were
pub record PutsRow (code : Option ℕ) (edges : List Edge) (old new : List Row)
    (before behind : List Edge) : Type 0 where
  pub row : Row
  pub code_is : code_in row.mark ≡ code
  pub ends : row.end ≡ length before + length edges
  pub rows : new ≡ old ++ row ∷ []
  pub all : behind ≡ before ++ edges

-- nothing was put
pub record KeepsRows (old new : List Row) (before behind : List Edge) : Type 0 where
  pub rows : new ≡ old
  pub all : behind ≡ before
