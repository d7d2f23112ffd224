-- What is kept of a text's entries: the rows of words by their numbers, and other rows by their
-- places. Public: the contract of the tables' constructor speaks of it.
use Rattle.std.specs.Prelude.{ℕ, zero, suc, List, [], ◌∷◌, ◌++◌, Option, None, Some, Vec, length, slice_get}
use Rattle.std.specs.BTreeMap.{BTreeMap, get}
use Rattle.std.specs.Ordering.{nat_cmp}
use Rattle.ux_dela.specs.declared.entry.Entry.{Entry}
use Rattle.ux_lexical_tables.specs.Tables.{Tables}

-- the items in the vector, if there is one
abbrev pub items_in : {X Z : Type 0} → Option (Vec X Z) → List X
items_in None = []
items_in (Some items) = items.items

-- the row of a number, where there is one
abbrev pub row_at : {X Z : Type 0} → List (Vec X Z) → Option ℕ → List X
row_at rows None = []
row_at rows (Some number) = items_in (slice_get rows number)

-- the row of a place, if one is kept
abbrev pub row_of : {X Z : Type 0} → BTreeMap ℕ (Vec X Z) → ℕ → List X
row_of rows place = items_in (get nat_cmp rows place)

-- what there is at each place before the end
abbrev pub table_of : {X : Type 0} → (ℕ → X) → (end : ℕ) → List X
table_of at zero = []
table_of at (suc end) = table_of at end ++ at end ∷ []

-- the row of a token, by its number if it is a word, and else by its place
abbrev pub row_by : {Z : Type 0} → List (Vec Entry Z) → BTreeMap ℕ (Vec Entry Z) → (place : ℕ) →
    Option (Option ℕ) → List Entry
row_by rows tags place None = []
row_by rows tags place (Some None) = row_of tags place
row_by rows tags place (Some (Some number)) = row_at rows (Some number)

-- the row of simple entries at a place
abbrev pub simple_at : {Z : Type 0} → List (Option ℕ) → List (Vec Entry Z) →
    BTreeMap ℕ (Vec Entry Z) → (place : ℕ) → List Entry
simple_at words rows tags place = row_by rows tags place (slice_get words place)

-- the tables of these numbers of words, rows of words, rows of tags, compound rows and unknown words,
-- with one row for each word number
abbrev pub tables_of : {Z : Type 0} → List (Option ℕ) → List (Vec Entry Z) →
    BTreeMap ℕ (Vec Entry Z) → BTreeMap ℕ (Vec (ℕ × Entry) Z) → List ℕ → Tables
tables_of words rows tags compounds unknown = record {
  simple = table_of (simple_at words rows tags) (length words);
  compounds = table_of (row_of compounds) (length words);
  unknown = unknown;
}
