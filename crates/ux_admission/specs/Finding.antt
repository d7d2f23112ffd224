-- A search of the places into which bodies are closed, pair after pair. Inner: the crate's own
-- functions alone speak of it.
use Rattle.std.specs.Prelude.{◌≡◌, ℕ, ◌<◌, ◌⊎◌, ◌↔◌, List, [], ◌∷◌, ◌++◌, length, Contains, Bool, true, false, Some, slice_get}
use Rattle.ux_digraph.specs.Paths.{row_of}
use Rattle.ux_admission.specs.declared.closers.Pair.{Pair}
use Rattle.ux_admission.specs.declared.leading.Leading.{Leading}
use Rattle.ux_boxes.specs.declared.place.Place.{Place}
use Rattle.ux_admission.specs.Gains.{Gains}
use Rattle.ux_admission.specs.Leading.{IsLeading, Leads, Opens, Closes, AreClosersIn}
use Rattle.ux_net.specs.Words.{ordinary, closes}

-- the item was put behind the others, or it is old and was among them
abbrev pub IsInserted : {A : Type 0} → (old : List A) → A → (is_new : Bool) → (new : List A) → Type 0
IsInserted old x true new = new ≡ old ++ x ∷ []
IsInserted old x false new = (new ≡ old) × Contains old x

-- the list has grown at its end, by what is so
pub record Finds {A : Type 0} (old new : List A) (IsSo : A → Type 0) : Type 0 where
  pub gains : Gains old new IsSo
  pub kept : (k : ℕ) (x : A) → slice_get old k ≡ Some x → slice_get new k ≡ Some x

abbrev pub pair_of : (place closer : ℕ) → Pair
pair_of place closer = record { place = place; closer = closer }

-- a row for each place, with those of which it is one of the pairs
abbrev pub AreRowsOf : List Pair → List (List ℕ) → Type 0
AreRowsOf pairs rows = (a c : ℕ) → Contains (row_of rows a) c ↔ Contains pairs (pair_of a c)

-- these places jump to that one too
abbrev pub AreJumps : (old new : List (List ℕ)) → (to : ℕ) → List ℕ → Type 0
AreJumps old new to sources =
    (a c : ℕ) → Contains (row_of new c) a ↔
    (Contains (row_of old c) a ⊎ ((c ≡ to) × Contains sources a))

module _ (leading : Leading) where
  -- a context that opens at the first place is closed into the second
  abbrev pub Jumps : (a d : ℕ) → Type 0
  Jumps a d = (o : ℕ) × Opens leading a o × Closes leading o d

  -- pairs and jumps that are so
  pub record IsFound (pairs : List Pair) (jumps : List (List ℕ)) : Type 0 where
    pub of_pairs : (p : Pair) → Contains pairs p → Closes leading p.place p.closer
    pub of_jumps : (a d : ℕ) → Contains (row_of jumps d) a → Jumps a d

  -- what follows from the pair and the jumps was found
  pub record IsLooked (pairs : List Pair) (jumps : List (List ℕ)) (p : Pair) : Type 0 where
    pub steps : (a : ℕ) → Leads leading ordinary a p.place → Contains pairs (pair_of a p.closer)
    pub opens : (a : ℕ) → Opens leading a p.place → Contains (row_of jumps p.closer) a
    pub jumped : (a : ℕ) → Contains (row_of jumps p.place) a → Contains pairs (pair_of a p.closer)

  -- how far the search has come, when `next` of the pairs were looked at
  pub record IsFinding (pairs : List Pair) (rows jumps : List (List ℕ)) (next : ℕ) : Type 0 where
    pub rows_len : length rows ≡ length leading.sources.items
    pub jumps_len : length jumps ≡ length leading.sources.items
    pub are_rows : AreRowsOf pairs rows
    pub sound : IsFound pairs jumps
    pub begun : (p : Pair) → Leads leading closes p.place p.closer → Contains pairs p
    pub looked : (k : ℕ) (p : Pair) → k < next → slice_get pairs k ≡ Some p →
        IsLooked pairs jumps p

-- the closers of these places were added
pub record AddsClosers (places : List Place) (old new : List (List ℕ)) : Type 0 where
  pub leading : Leading
  pub of_places : IsLeading places leading
  pub more : List (List ℕ)
  pub behind : new ≡ old ++ more
  pub closers : AreClosersIn leading more
