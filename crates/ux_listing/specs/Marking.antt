-- What is marked of what a walk without a fold has seen: the states of its fold are all 0. Inner: the
-- crate's own functions alone speak of it.
use Rattle.std.specs.Prelude.{◌≡◌, ℕ, List, Some, slice_get, Contains}
use Rattle.ux_listing.specs.declared.config.Config.{Config}
use Rattle.ux_listing.specs.declared.config.Found.{Found}
use Rattle.ux_listing.specs.declared.config.Item.{Item}
use Rattle.ux_listing.specs.declared.config.Item.TheVariants.{At, Ends}
use Rattle.ux_listing.specs.declared.config.Mark.{Mark}
use Rattle.ux_listing.specs.declared.config.Visit.{Visit}

-- the visit, the configuration and the end without a fold
abbrev pub bare : (g i : ℕ) → Visit
bare g i = record { graph = g; at = i; fold = 0 }

abbrev pub at_mark : Mark → Config
at_mark m = record { visit = bare m.graph m.from; state = m.state; at = m.at; fold = 0 }

abbrev pub end_of : (g i e : ℕ) → Found
end_of g i e = record { visit = bare g i; end = e; fold = 0 }

-- each mark
abbrev pub IsAny : Mark → Type 0
IsAny m = Unit {0}

-- the item has one of these numbers
abbrev pub IsMarked : (seen : List Item) (numbers : List ℕ) → Item → Type 0
IsMarked seen numbers w = (n : ℕ) × (slice_get seen n ≡ Some w) × Contains numbers n

-- the wanted ends of the main visit are marked
abbrev pub AreEndsMarked : (seen : List Item) (Wanted : ℕ → Type 0) (start : ℕ) (numbers : List ℕ) →
    Type 0
AreEndsMarked seen Wanted start numbers = (e n : ℕ) → Wanted e →
    slice_get seen n ≡ Some (Ends (end_of 1 start e)) → Contains numbers n

-- that from which a marked item comes is marked
abbrev pub AreClosed : (told : (item origin : ℕ) → Type 0) (numbers : List ℕ) → Type 0
AreClosed told numbers = (item origin : ℕ) → told item origin → Contains numbers item →
    Contains numbers origin

-- so has the configuration of the mark
abbrev pub HasMark : (seen : List Item) (numbers : List ℕ) → Mark → Type 0
HasMark seen numbers m = IsMarked seen numbers (At (at_mark m))
