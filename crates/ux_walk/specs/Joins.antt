-- How callers go on behind what a visit derives. Inner: the crate's own functions alone speak of
-- it.
use Rattle.std.specs.Prelude.{◌≡◌, List, ◌++◌, ◌⊎◌, Contains}
use Rattle.ux_walk.specs.declared.config.Config.{Config}
use Rattle.ux_walk.specs.declared.config.Found.{Found}
use Rattle.ux_walk.specs.declared.config.Return.{Return}
use Rattle.ux_walk.specs.declared.lists.Link.{Link}
use Rattle.ux_walk.specs.declared.noted.Noted.{Noted}
use Rattle.ux_walk.specs.Groups.{Grows}
use Rattle.ux_walk.specs.Links.{AreBelow, Extends, Names}

-- the configuration goes on where the caller waits, at the end of the derivation, with the events
-- of the derivation after those of the caller
pub record IsJoin (links : List (Link Noted)) (waiting : Return) (found : Found) (c : Config)
    : Type 0 where
  pub visit : c.visit ≡ waiting.visit
  pub here : c.here ≡ waiting.here
  pub at : c.at ≡ found.end
  pub before : List Noted
  pub inside : List Noted
  pub earlier : Names links waiting.events before
  pub later : Names links found.events inside
  pub all : Names links c.events (inside ++ before)

-- some configuration does so
abbrev pub HasJoin : List (Link Noted) → List Config → Return → Found → Type 0
HasJoin links configs waiting found =
    (c : Config) × Contains configs c × IsJoin links waiting found c

-- each number of events names a list
pub record AreListed (links : List (Link Noted)) (returns : List Return) (derived : List Found)
    : Type 0 where
  pub below : AreBelow links
  pub waiting : (w : Return) → Contains returns w → (xs : List Noted) × Names links w.events xs
  pub ends : (f : Found) → Contains derived f → (xs : List Noted) × Names links f.events xs

-- each of these pairs was joined, and no other
pub record Joins (Pair : Return → Found → Type 0) (links links' : List (Link Noted))
    (configs configs' : List Config) : Type 0 where
  pub below : AreBelow links'
  pub events : Extends links links'
  pub grows : Grows configs configs'
  pub has : (w : Return) (f : Found) → Pair w f → HasJoin links' configs' w f
  pub only : (c : Config) → Contains configs' c → Contains configs c
      ⊎ ((w : Return) × (f : Found) × Pair w f × IsJoin links' w f c)

-- one of the calls and one of the derivations
abbrev pub OfBoth : List Return → List Found → Return → Found → Type 0
OfBoth returns derived w f = Contains returns w × Contains derived f
