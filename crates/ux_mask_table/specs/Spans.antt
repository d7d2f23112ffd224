-- Ends of spans in flat lists, each with the number of the mask that accepts the span. Public: the
-- contracts of the table of masks speak of it.
use Rattle.std.specs.Prelude.{◌≡◌, ℕ, ◌<◌, ◌≤◌, ◌⊎◌, ◌↔◌, get_or, length}
use Rattle.ux_mask_table.specs.declared.spans.Stretch.{Stretch}
use Rattle.ux_mask_table.specs.declared.spans.Spans.{Spans}

module _ (spans : Spans) where
  -- the number and the end at a place
  abbrev pub number_at : ℕ → ℕ
  number_at place = get_or spans.numbers.items place 0

  abbrev pub end_at : ℕ → ℕ
  end_at place = get_or spans.ends.items place 0

  -- each number has its end
  abbrev pub ArePaired : Type 0
  ArePaired = length spans.numbers.items ≡ length spans.ends.items

  -- by number, and by end where the numbers are equal
  abbrev pub StandsBefore : (i j : ℕ) → Type 0
  StandsBefore i j =
      (number_at i < number_at j) ⊎ ((number_at i ≡ number_at j) × (end_at i < end_at j))

  -- a row of the lists, in that order
  pub record IsOrdered (row : Stretch) : Type 0 where
    pub from : row.from ≤ row.to
    pub to : row.to ≤ length spans.numbers.items
    pub paired : ArePaired
    pub ascends : (i j : ℕ) → row.from ≤ i → i < j → j < row.to → StandsBefore i j

  -- the row has position k with this number
  pub record HasEnd (row : Stretch) (number k : ℕ) : Type 0 where
    pub place : ℕ
    pub from : row.from ≤ place
    pub to : place < row.to
    pub number_is : number_at place ≡ number
    pub end_is : end_at place ≡ k

  -- the row has exactly the ends of the numbers below a bound
  pub record IsRow (IsEnd : (number k : ℕ) → Type 0) (row : Stretch) (bound : ℕ) : Type 0 where
    pub ordered : IsOrdered row
    pub below : (place : ℕ) → row.from ≤ place → place < row.to → number_at place < bound
    pub exactly : (number k : ℕ) → number < bound → HasEnd row number k ↔ IsEnd number k

-- what stood in the lists stands there still
pub record AreKept (old new : Spans) : Type 0 where
  pub len : length old.numbers.items ≤ length new.numbers.items
  pub numbers : (i : ℕ) → i < length old.numbers.items → number_at new i ≡ number_at old i
  pub ends : (i : ℕ) → i < length old.numbers.items → end_at new i ≡ end_at old i
