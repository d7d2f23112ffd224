-- The numbers that name courses of visits, and what a walk has reached. Inner: the crate's own
-- functions alone speak of it.
use Rattle.std.specs.Prelude.{◌≡◌, ℕ, List, [], ◌∷◌, ◌++◌, ◌⊎◌, Some, slice_get, Contains, reverse}
use Rattle.ux_outputs.specs.declared.event.Event.{Event}
use Rattle.ux_outputs.specs.declared.event.Event.TheVariants.{Take}
use Rattle.ux_walk.specs.declared.lists.Link.{Link}
use Rattle.ux_walk.specs.declared.config.Frame.{Frame}
use Rattle.ux_walk.specs.declared.config.Visit.{Visit}
use Rattle.ux_walk.specs.declared.config.Config.{Config}
use Rattle.ux_walk.specs.declared.config.Return.{Return}
use Rattle.ux_walk.specs.declared.config.Found.{Found}
use Rattle.ux_walk.specs.declared.noted.Noted.{Noted}
use Rattle.ux_walk.specs.declared.reached.Reached.{Reached}
use Rattle.ux_walk.specs.Links.{AreBelow, Extends}
use Rattle.ux_walk.specs.Groups.{AreGrouped, Grows, IsIn}
use Rattle.ux_walk.specs.Noted.{IsPlacedIn, KeepPlaces, NamesEvents, listed_in}
use Rattle.ux_walk.specs.Courses.{Course}

abbrev pub events_of : Reached → List (Link Noted)
events_of r = r.events.links.keys

-- the texts of which its events speak
abbrev pub texts_of : Reached → List (List ℕ)
texts_of r = listed_in r.texts

-- the number names these events, latest first
abbrev pub NamesEventsIn : Reached → ℕ → List Event → Type 0
NamesEventsIn r number events = NamesEvents (texts_of r) (events_of r) number events

-- the number is that of the visit
abbrev pub IsVisit : Reached → ℕ → Visit → Type 0
IsVisit r number v = slice_get r.visits.keys number ≡ Some v

-- the visit of the main graph
abbrev pub main_visit : ℕ → Visit
main_visit start = record { graph = 1; at = start }

-- the course that goes on in a frame
abbrev pub going : Frame → ℕ → List Event → Course
going here at before = record { frames = here ∷ []; at = at; before = before }

-- the course of a visit that has come to its end
abbrev pub ended : ℕ → List Event → Course
ended at before = record { frames = []; at = at; before = before }

-- the course with which a visit begins
abbrev pub beginning : Visit → Course
beginning v = going (record { graph = v.graph; state = 0 }) v.at []

-- the course over a call: the called visit begins, and then a frame goes on
abbrev pub calling : Visit → Frame → List Event → Course
calling called here before = record {
  frames = record { graph = called.graph; state = 0 } ∷ here ∷ [];
  at = called.at;
  before = before;
}

-- the course that goes on in a frame after the tokens up to an end
abbrev pub IsPast : (at : ℕ) → Frame → List Event → (end : ℕ) → Course → Type 0
IsPast at here before end w = w ≡ going here end (Take at end ∷ before)

-- nothing is reached; the table of texts may have some
pub record IsNothing (r : Reached) : Type 0 where
  pub events : events_of r ≡ []
  pub visits : r.visits.keys ≡ []
  pub configs : r.configs.keys ≡ []
  pub returns : r.returns.members.keys ≡ []
  pub found : r.found.members.keys ≡ []
  pub returns_grouped : AreGrouped r.returns
  pub found_grouped : AreGrouped r.found

-- the visit and the events that the configuration's numbers name
pub record Spells (r : Reached) (c : Config) (v : Visit) (before : List Event) : Type 0 where
  pub visit : IsVisit r c.visit v
  pub events : NamesEventsIn r c.events before

-- the configuration stands for the course of the visit
pub record IsNamed (r : Reached) (c : Config) (v : Visit) (w : Course) : Type 0 where
  pub before : List Event
  pub spells : Spells r c v before
  pub is : w ≡ going c.here c.at before

-- the return of this number of a called visit stands for the course of the visit
pub record IsWaiting (r : Reached) (number : ℕ) (waiting : Return) (v : Visit) (w : Course)
    : Type 0 where
  pub called : Visit
  pub before : List Event
  pub callee : IsVisit r number called
  pub visit : IsVisit r waiting.visit v
  pub events : NamesEventsIn r waiting.events before
  pub is : w ≡ calling called waiting.here before

-- what was found of the visit of this number stands for the course, which has ended
pub record IsFound (r : Reached) (number : ℕ) (f : Found) (v : Visit) (w : Course) : Type 0 where
  pub before : List Event
  pub visit : IsVisit r number v
  pub events : NamesEventsIn r f.events before
  pub is : w ≡ ended f.end before

-- a configuration stands for the course
abbrev pub HasConfig : Reached → Visit → Course → Type 0
HasConfig r v w = (c : Config) × Contains r.configs.keys c × IsNamed r c v w

-- a return does
abbrev pub HasReturn : Reached → Visit → Course → Type 0
HasReturn r v w = (number : ℕ) × (waiting : Return) × IsIn r.returns number waiting
    × IsWaiting r number waiting v w

-- a derivation does
abbrev pub HasFound : Reached → Visit → Course → Type 0
HasFound r v w = (number : ℕ) × (f : Found) × IsIn r.found number f × IsFound r number f v w

-- the course of the visit was reached
abbrev pub Has : Reached → Visit → Course → Type 0
Has r v w = HasConfig r v w ⊎ (HasReturn r v w ⊎ HasFound r v w)

-- each number names what it should
pub record IsSound (r : Reached) : Type 0 where
  pub events_below : AreBelow (events_of r)
  pub returns_grouped : AreGrouped r.returns
  pub found_grouped : AreGrouped r.found
  pub configs : (c : Config) → Contains r.configs.keys c →
      (v : Visit) × (w : Course) × IsNamed r c v w
  pub returns : (number : ℕ) (waiting : Return) → IsIn r.returns number waiting →
      (v : Visit) × (w : Course) × IsWaiting r number waiting v w
  pub found : (number : ℕ) (f : Found) → IsIn r.found number f →
      (v : Visit) × (w : Course) × IsFound r number f v w

-- the caller goes on behind the derivation
pub record IsJoined (r : Reached) (waiting : Return) (f : Found) : Type 0 where
  pub v : Visit
  pub before : List Event
  pub inside : List Event
  pub visit : IsVisit r waiting.visit v
  pub earlier : NamesEventsIn r waiting.events before
  pub later : NamesEventsIn r f.events inside
  pub has : HasConfig r v (going waiting.here f.end (inside ++ before))

-- the visit of this number has begun
abbrev pub HasBegun : Reached → ℕ → Type 0
HasBegun r number = (v : Visit) × IsVisit r number v × HasConfig r v (beginning v)

-- each called visit has begun, and each of its callers goes on behind each of its derivations
pub record IsClosed (r : Reached) : Type 0 where
  pub begins : (number : ℕ) (waiting : Return) → IsIn r.returns number waiting → HasBegun r number
  pub joins : (number : ℕ) (waiting : Return) (f : Found) → IsIn r.returns number waiting →
      IsIn r.found number f → IsJoined r waiting f

-- what follows from given courses of visits: these, the beginning of what is called, and where the
-- caller goes on behind what that derives
pub data Spreads (Given : Visit → Course → Type 0) : Visit → Course → Type 0 where
  given : {v : Visit} {w : Course} → Given v w → Spreads Given v w
  begins : {v called : Visit} {here : Frame} {before : List Event} →
      Spreads Given v (calling called here before) → Spreads Given called (beginning called)
  joins : {v called : Visit} {here : Frame} {before inside : List Event} {end : ℕ} →
      Spreads Given v (calling called here before) → Spreads Given called (ended end inside) →
      Spreads Given v (going here end (inside ++ before))

-- these courses were added, and no others but what follows from them and from those before
pub record Adds (Told : Visit → Course → Type 0) (old new : Reached) : Type 0 where
  pub sound : IsSound new
  pub closed : IsClosed old → IsClosed new
  pub events : Extends (events_of old) (events_of new)
  pub texts : KeepPlaces (texts_of old) (texts_of new)
  pub visits : Grows old.visits.keys new.visits.keys
  pub configs : Grows old.configs.keys new.configs.keys
  pub kept : (v : Visit) (w : Course) → Has old v w → Has new v w
  pub has : (v : Visit) (w : Course) → Told v w → Has new v w
  pub only : (v : Visit) (w : Course) → Has new v w →
      Spreads (λ u x. Has old u x ⊎ Told u x) v w

-- courses of one visit
abbrev pub Of : Visit → (Course → Type 0) → Visit → Course → Type 0
Of v Told u w = (u ≡ v) × Told w

-- where all is sound, and the configuration's numbers name a visit and events, these courses of
-- that visit are added
abbrev pub AddsFrom : Reached → Reached → Config → (List Event → Course → Type 0) → Type 0
AddsFrom old new c Told = (v : Visit) (before : List Event) →
    IsSound old → Spells old c v before → Adds (Of v (Told before)) old new

-- no course
abbrev pub NoCourse : Visit → Course → Type 0
NoCourse v w = ⊥

-- no course was added, and a text has a place
pub record Places (old new : Reached) (text : List ℕ) (place : ℕ) : Type 0 where
  pub placed : IsPlacedIn (texts_of old) (texts_of new) text place
  pub adds : IsSound old → Adds NoCourse old new

-- no course was added, and the visit has a number
pub record Numbers (old new : Reached) (v : Visit) (number : ℕ) : Type 0 where
  pub visit : IsVisit new number v
  pub adds : IsSound old → Adds NoCourse old new

-- No course was added, and the new number names these events, latest first, after those that the
-- old number names.
abbrev pub Notes : (old new : Reached) → (events : List Event) → (from to : ℕ) → Type 0
Notes old new events from to = (before : List Event) → IsSound old → NamesEventsIn old from before →
    Adds NoCourse old new × NamesEventsIn new to (events ++ before)

-- some derivation of the visit was found with this end and these events
pub record IsFoundAs (r : Reached) (v : Visit) (end : ℕ) (events : List Event) : Type 0 where
  pub before : List Event
  pub has : HasFound r v (ended end before)
  pub is : events ≡ reverse before
