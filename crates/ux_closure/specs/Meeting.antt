-- What was met so far, and what one more step adds. Inner: the crate's own functions alone speak of
-- it.
use Rattle.std.specs.Prelude.{◌≡◌, ◌⊎◌, ◌↔◌, ◌≤◌, ◌<◌, ℕ, List, [], ◌∷◌, ◌++◌, Bool, Contains, Some, slice_get}
use Rattle.ux_net.specs.declared.state.Edge.{Edge}
use Rattle.ux_net.specs.declared.net_graph.NetGraph.{NetGraph}
use Rattle.ux_walk.specs.declared.lists.Link.{Link}
use Rattle.ux_walk.specs.declared.config.Frame.{Frame}
use Rattle.ux_walk.specs.Leads.{Stack}
use Rattle.ux_walk.specs.Links.{Names, AreBelow}
use Rattle.ux_closure.specs.declared.stand.Stand.{Stand}
use Rattle.ux_closure.specs.declared.met.Met.{Met}
use Rattle.ux_closure.specs.Holding.{IsStack, AreNamed, Grows, Has}
use Rattle.ux_closure.specs.Passing.{IsPast, PassesOn}

-- the links, the stands that were met, and whether the empty stack was
pub record Known : Type 0 where
  pub links : List (Link Frame)
  pub stands : List Stand
  pub ends : Bool

-- what is known by the links and what was met
abbrev pub known : List (Link Frame) → Met → Known
known links met = record { links = links; stands = met.stands.keys; ends = met.ends }

-- the stack was met
abbrev pub Meets : Known → Stack → Type 0
Meets k stack = Has k.links k.stands k.ends stack

-- the links are in order, and each stand names a stack
pub record IsSound (k : Known) : Type 0 where
  pub below : AreBelow k.links
  pub named : AreNamed k.links k.stands

-- a stand behind the others, each of which names one of these stacks
abbrev pub AreAfter : (Told : Stack → Type 0) → Known → List Stand → Type 0
AreAfter Told new more = (stand : Stand) → Contains more stand →
    (stack : Stack) × IsStack new.links stand stack × Told stack

-- these stacks were met too, and no others; new stands stand behind those that were there
pub record Adds (Told : Stack → Type 0) (old new : Known) : Type 0 where
  pub grows : Grows old.links new.links
  pub more : List Stand
  pub behind : new.stands ≡ old.stands ++ more
  pub told : AreAfter Told new more
  pub has : (stack : Stack) → Meets new stack ↔ (Meets old stack ⊎ Told stack)

-- the same of stacks that are told by the frames to which a stand returns
abbrev pub AddsFrom : Stand → (Told : Stack → Stack → Type 0) → (old new : Known) → Type 0
AddsFrom stand Told old new = (fs : Stack) → Names old.links stand.back fs → Adds (Told fs) old new

-- an element was put behind the others, or was there
abbrev pub IsPut : {A : Type 0} → (old new : List A) → A → Type 0
IsPut old new x = ((new ≡ old) × Contains old x) ⊎ (new ≡ old ++ x ∷ [])

-- the stack after one of the edges
abbrev pub IsPastSome : (is_spaced : Bool) → Frame → Stack → List Edge → Stack → Type 0
IsPastSome is_spaced f fs edges next =
    (edge : Edge) × Contains edges edge × IsPast is_spaced f fs edge next

module _ (net : List NetGraph) (is_spaced : Bool) where
  -- the stack one step on from one of the stand
  abbrev pub IsAfter : List (Link Frame) → Stand → Stack → Type 0
  IsAfter links stand next =
      (stack : Stack) × IsStack links stand stack × PassesOn net is_spaced stack next

  -- one step on from the stand at a place
  abbrev pub IsAfterAt : Known → (place : ℕ) → Stack → Type 0
  IsAfterAt k place next =
      (stand : Stand) × (slice_get k.stands place ≡ Some stand) × IsAfter k.links stand next

  -- one step on from a stand between two places
  abbrev pub IsAfterPlaces : Known → (from to : ℕ) → Stack → Type 0
  IsAfterPlaces k from to next =
      (place : ℕ) × (from ≤ place) × (place < to) × IsAfterAt k place next
