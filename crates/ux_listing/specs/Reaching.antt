-- What a walk keeps as it goes on. Inner: the crate's own functions alone speak of it.
use Rattle.std.specs.Prelude.{◌≡◌, ◌↔◌, ℕ, List, ◌<◌, Some, slice_get}
use Rattle.ux_folds.specs.Folding.{Next}
use Rattle.ux_walk.specs.Contexts.{Applying}
use Rattle.ux_walk.specs.Settings.{Setting}
use Rattle.ux_listing.specs.declared.config.Visit.{Visit}
use Rattle.ux_listing.specs.declared.config.Return.{Return}
use Rattle.ux_listing.specs.declared.config.Found.{Found}
use Rattle.ux_listing.specs.declared.config.Mark.{Mark}
use Rattle.ux_listing.specs.declared.config.Item.{Item}
use Rattle.ux_listing.specs.declared.config.Item.TheVariants.{At, Waits, Ends}
use Rattle.ux_listing.specs.declared.groups.Keyed.{Keyed}
use Rattle.ux_listing.specs.declared.walking.Reached.{Reached}
use Rattle.ux_listing.specs.Groups.{AreKeyed, IsAt}
use Rattle.ux_listing.specs.Sets.{Adds}
use Rattle.ux_listing.specs.Walking.{IsPut, IsJoin, IsWalking, joined}

-- the item waits for the visit; the visit derives the item
abbrev pub WaitsFor : Item → Visit → Type 0
WaitsFor (Waits r) v = r.callee ≡ v
WaitsFor other v = ⊥

abbrev pub IsOf : Item → Visit → Type 0
IsOf (Ends f) v = f.visit ≡ v
IsOf other v = ⊥

-- by visit the numbers of those of the first so many items that belong to it
pub record IsIndex (Belongs : Item → Visit → Type 0) (seen : List Item) (n : ℕ)
    (index : Keyed Visit ℕ) : Type 0 where
  pub keyed : AreKeyed index
  pub exact : (v : Visit) (i : ℕ) → IsAt index v i
      ↔ ((i < n) × (w : Item) × (slice_get seen i ≡ Some w) × Belongs w v)

-- the walk went on from the first so many items, and knows who waits and what was found
pub record IsReached (next : Next) (setting : Setting) (applies : Applying) (IsState : ℕ → Type 0)
    (start first : ℕ) (Marked : Mark → Type 0) (told : (item origin : ℕ) → Type 0)
    (reached : Reached) (n : ℕ) : Type 0 where
  pub walking : IsWalking next setting applies IsState start first Marked reached.seen.keys told n
  pub waits : IsIndex WaitsFor reached.seen.keys n reached.waits
  pub found : IsIndex IsOf reached.seen.keys n reached.found

-- what was told stays told
abbrev pub StaysTold : (old new : (item origin : ℕ) → Type 0) → Type 0
StaysTold old new = (i o : ℕ) → old i o → new i o

-- the item is where the caller of one number goes on behind the end of another
pub record IsJoinOf (Pair : (waits ends : ℕ) → Type 0) (seen : List Item) (w : Item) : Type 0 where
  pub i : ℕ
  pub j : ℕ
  pub pair : Pair i j
  pub waiting : Return
  pub found : Found
  pub waits : slice_get seen i ≡ Some (Waits waiting)
  pub ends : slice_get seen j ≡ Some (Ends found)
  pub is : w ≡ At (joined waiting found)

-- callers went on behind ends, for each of these pairs of numbers
pub record AreJoined (Marked : Mark → Type 0) (Pair : (waits ends : ℕ) → Type 0)
    (old new : List Item) (told : (item origin : ℕ) → Type 0) : Type 0 where
  pub adds : Adds (IsJoinOf Pair new) old new
  pub put : (i j : ℕ) → Pair i j → (r : Return) (f : Found) → slice_get old i ≡ Some (Waits r) →
      slice_get old j ≡ Some (Ends f) → IsPut Marked (IsJoin new told r f) (At (joined r f))
