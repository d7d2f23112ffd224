-- What a walk has seen, and what that means. Inner: the crate's own functions alone speak of it.
use Rattle.std.specs.Prelude.{◌≡◌, ℕ, List, ◌⊎◌, ◌<◌, Option, Some, slice_get, Contains}
use Rattle.ux_outputs.specs.declared.event.Event.{Event}
use Rattle.ux_folds.specs.Folding.{Next, Folds}
use Rattle.ux_walk.specs.Contexts.{Applying}
use Rattle.ux_walk.specs.Settings.{Setting}
use Rattle.ux_listing.specs.declared.config.Visit.{Visit}
use Rattle.ux_listing.specs.declared.config.Config.{Config}
use Rattle.ux_listing.specs.declared.config.Return.{Return}
use Rattle.ux_listing.specs.declared.config.Found.{Found}
use Rattle.ux_listing.specs.declared.config.Mark.{Mark}
use Rattle.ux_listing.specs.declared.config.End.{End}
use Rattle.ux_listing.specs.declared.config.Item.{Item}
use Rattle.ux_listing.specs.declared.config.Item.TheVariants.{At, Waits, Ends}
use Rattle.ux_listing.specs.Moves.{Move, goes, calls, Moves, IsFinal}
use Rattle.ux_listing.specs.Runs.{Goes, Way, Entered}
use Rattle.ux_listing.specs.Sets.{Adds}

-- the fold knows the state
abbrev pub IsKnown : {M : Type 0} → (ℕ → M → Type 0) → ℕ → Type 0
IsKnown {M} means s = (meant : M) × means s meant

abbrev pub mark_of : Config → Mark
mark_of c = record { graph = c.visit.graph; from = c.visit.at; state = c.state; at = c.at }

-- the visit that a call of graph h enters
abbrev pub entering : ℕ → Config → (fold : ℕ) → Visit
entering h c u = record { graph = h; at = c.at; fold = u }

-- the configuration with which a visit begins
abbrev pub beginning : Visit → Config
beginning v = record { visit = v; state = 0; at = v.at; fold = v.fold }

-- the visit of the main graph
abbrev pub main_visit : (start first : ℕ) → Visit
main_visit start first = record { graph = 1; at = start; fold = first }

-- the configuration of the same visit in state b at position k
abbrev pub going : Config → (b k fold : ℕ) → Config
going c b k u = record { visit = c.visit; state = b; at = k; fold = u }

-- who waits for graph h, to go on in state b
abbrev pub waiting : ℕ → Config → (fold b : ℕ) → Return
waiting h c u b = record { callee = entering h c u; caller = c.visit; to = b }

-- what a visit derives that ends in the configuration
abbrev pub ending : Config → Found
ending c = record { visit = c.visit; end = c.at; fold = c.fold }

-- what the visit derives up to this end
abbrev pub found_at : Visit → End → Found
found_at v x = record { visit = v; end = x.end; fold = x.fold }

-- where the caller goes on behind what was found
abbrev pub joined : Return → Found → Config
joined r f = record { visit = r.caller; state = r.to; at = f.end; fold = f.fold }

-- the items with which a walk goes on over a move, in state u of the fold
abbrev pub Gives : Config → Move → (fold : ℕ) → Item → Type 0
Gives c (goes b k) u w = w ≡ At (going c b k u)
Gives c (calls h b) u w =
    (w ≡ Waits (waiting h c u b)) ⊎ (w ≡ At (beginning (entering h c u)))

-- so it is of the item, but of a configuration that isn't marked
abbrev pub IsPut : (Mark → Type 0) → (Item → Type 0) → Item → Type 0
IsPut Marked IsSo (At c) = Marked (mark_of c) → IsSo (At c)
IsPut Marked IsSo other = IsSo other

module _ (next : Next) where
  -- the fold makes something of the events from a state, and where that is a state, so it is of it
  pub record Makes (s : ℕ) (events : List Event) (IsSo : ℕ → Type 0) : Type 0 where
    pub result : Option ℕ
    pub folds : Folds next events (Some s) result
    pub so : (u : ℕ) → result ≡ Some u → IsSo u

  -- each item that the move gives is put, unless the events are dropped
  abbrev pub IsMade : (Mark → Type 0) → (Item → Type 0) → Config → Move → List Event → Type 0
  IsMade Marked IsSo c move events = Makes c.fold events
      (λ u. (w : Item) → Gives c move u w → IsPut Marked IsSo w)

  -- the item is given by one of these moves
  pub record IsGiven (c : Config) (Told : Move → List Event → Type 0) (w : Item) : Type 0 where
    pub move : Move
    pub events : List Event
    pub told : Told move events
    pub fold : ℕ
    pub folds : Folds next events (Some c.fold) (Some fold)
    pub gives : Gives c move fold w

  -- what these moves give was added, and nothing else
  pub record Follows (Marked : Mark → Type 0) (c : Config) (Told : Move → List Event → Type 0)
      (old new : List Item) : Type 0 where
    pub adds : Adds (IsGiven c Told) old new
    pub made : (move : Move) (events : List Event) → Told move events →
        IsMade Marked (Contains new) c move events

  module _ (setting : Setting) (applies : Applying) where
    -- a configuration of which so it is: of each item to which it leads
    abbrev pub IsDone : (Mark → Type 0) → (Item → Type 0) → Item → Type 0
    IsDone Marked IsSo (At c) =
        ((move : Move) (events : List Event) →
        Moves setting applies c.visit.graph c.state c.at move events →
        IsMade Marked IsSo c move events)
        × (IsFinal setting applies c.visit.graph c.state → IsSo (Ends (ending c)))
    IsDone Marked IsSo other = Unit {0}

    -- the item follows a configuration
    abbrev pub IsNext : Config → Item → Type 0
    IsNext c w = IsGiven c (Moves setting applies c.visit.graph c.state c.at) w
        ⊎ (IsFinal setting applies c.visit.graph c.state × (w ≡ Ends (ending c)))

    module _ (IsState : ℕ → Type 0) (start : ℕ) where
      -- a way leads to the configuration, and its events to the fold's state
      pub record IsWay (c : Config) : Type 0 where
        pub entered : Entered setting applies start c.visit.graph c.visit.at
        pub before : List Event
        pub way : Way setting applies c.visit.graph c.visit.at c.state c.at before
        pub folds : Folds next before (Some c.visit.fold) (Some c.fold)
        pub known : IsState c.fold

      -- a way leads to the call
      pub record IsCall (r : Return) : Type 0 where
        pub from : Config
        pub is_way : IsWay from
        pub visit : from.visit ≡ r.caller
        pub events : List Event
        pub moves : Moves setting applies from.visit.graph from.state from.at
            (calls r.callee.graph r.to) events
        pub folds : Folds next events (Some from.fold) (Some r.callee.fold)
        pub at : r.callee.at ≡ from.at

      -- the visit's graph derives it
      pub record IsDerived (f : Found) : Type 0 where
        pub inside : List Event
        pub run : Goes setting applies f.visit.graph 0 f.visit.at f.end inside
        pub folds : Folds next inside (Some f.visit.fold) (Some f.fold)
        pub known : IsState f.fold

      -- what an item means
      abbrev pub IsMeant : Item → Type 0
      IsMeant (At c) = IsWay c
      IsMeant (Waits r) = IsCall r
      IsMeant (Ends f) = IsDerived f

-- Which items lead on to an item: each from which it follows, but that the beginning of a visit
-- leads back to no caller.
abbrev pub IsLed : (from item : Item) → Type 0
IsLed (At c) (At d) = d.visit ≡ c.visit
IsLed v w = Unit {0}

module _ (seen : List Item) (told : (item origin : ℕ) → Type 0) where
  -- it was told that the item comes from the other
  pub record Comes (from item : Item) : Type 0 where
    pub i : ℕ
    pub j : ℕ
    pub origin : slice_get seen i ≡ Some from
    pub here : slice_get seen j ≡ Some item
    pub is_told : told j i

  -- the item was seen, and it was told from where it comes
  abbrev pub IsSeen : (from item : Item) → Type 0
  IsSeen v w = Contains seen w × (IsLed v w → Comes v w)

  -- it comes from both
  abbrev pub IsJoin : Return → Found → Item → Type 0
  IsJoin r f w = Comes (Waits r) w × Comes (Ends f) w

-- the item is one of the first so many
abbrev pub IsBefore : List Item → ℕ → Item → Type 0
IsBefore seen n v = (i : ℕ) × (i < n) × (slice_get seen i ≡ Some v)

module _ (next : Next) (setting : Setting) (applies : Applying) (IsState : ℕ → Type 0)
    (start first : ℕ) (Marked : Mark → Type 0) (seen : List Item)
    (told : (item origin : ℕ) → Type 0) where
  -- the walk went on from the first so many items
  pub record IsWalking (n : ℕ) : Type 0 where
    pub main : IsPut Marked (Contains seen) (At (beginning (main_visit start first)))
    pub sound : (w : Item) → Contains seen w → IsMeant next setting applies IsState start w
    pub done : (v : Item) → IsBefore seen n v →
        IsDone next setting applies Marked (IsSeen seen told v) v
    pub joins : (r : Return) (f : Found) → IsBefore seen n (Waits r) → IsBefore seen n (Ends f) →
        r.callee ≡ f.visit → IsPut Marked (IsJoin seen told r f) (At (joined r f))

  -- nothing is left from which to go on
  pub record IsWalked : Type 0 where
    pub main : IsPut Marked (Contains seen) (At (beginning (main_visit start first)))
    pub sound : (w : Item) → Contains seen w → IsMeant next setting applies IsState start w
    pub done : (v : Item) → Contains seen v →
        IsDone next setting applies Marked (IsSeen seen told v) v
    pub joins : (r : Return) (f : Found) → Contains seen (Waits r) → Contains seen (Ends f) →
        r.callee ≡ f.visit → IsPut Marked (IsJoin seen told r f) (At (joined r f))
