-- Fronts: sets of stacks, each named by a number. Public: the crate's public contracts speak of them.
use Rattle.std.specs.Prelude.{◌≡◌, ◌↔◌, ◌≤◌, ◌<◌, ℕ, List, Contains, length}
use Rattle.ux_closure.specs.declared.stand.Stand.{Stand}
use Rattle.ux_closure.specs.Holding.{IsStack}
use Rattle.ux_walk.specs.declared.config.Frame.{Frame}
use Rattle.ux_walk.specs.declared.lists.Link.{Link}
use Rattle.ux_walk.specs.Leads.{LeadsTo, Stack, main_stack}
use Rattle.ux_walk.specs.Links.{Names}
use Rattle.ux_walk.specs.Settings.{Setting}

-- the frames of stacks, and the stands of fronts, as lists that share their tails
pub record Store : Type 0 where
  pub stacks : List (Link Frame)
  pub fronts : List (Link Stand)

-- what an automaton is made for, and its fronts
pub record Known : Type 0 where
  pub setting : Setting
  pub store : Store

-- the front is the list of stands that this number names, and one of them is the stand
abbrev pub HasStand : Store → (front : ℕ) → Stand → Type 0
HasStand store front stand =
    (stands : List Stand) × Names store.fronts front stands × Contains stands stand

-- one of these stands names the stack
abbrev pub NamesStack : List (Link Frame) → (IsThere : Stand → Type 0) → Stack → Type 0
NamesStack stacks IsThere stack = (stand : Stand) × IsThere stand × IsStack stacks stand stack

-- the stack is one of the front's
abbrev pub HoldsIn : Store → (front : ℕ) → Stack → Type 0
HoldsIn store front stack = NamesStack store.stacks (HasStand store front) stack

-- the number is that of a front
abbrev pub IsFrontIn : Store → ℕ → Type 0
IsFrontIn store front = front ≤ length store.fronts

-- the stack is one of the front's; front 0 has none
abbrev pub Holds : Known → (front : ℕ) → Stack → Type 0
Holds known front stack = HoldsIn known.store front stack

-- the number is that of a front
abbrev pub IsFront : Known → ℕ → Type 0
IsFront known front = IsFrontIn known.store front

-- the setting stays, and each front keeps its stacks
pub record Keeps (old new : Known) : Type 0 where
  pub setting : new.setting ≡ old.setting
  pub fronts : (front : ℕ) → IsFront old front → IsFront new front
  pub stacks : (front : ℕ) → IsFront old front → (stack : Stack) →
      Holds old front stack ↔ Holds new front stack

-- nothing is derived from the start: no walk leads from it to a later position
abbrev pub BeginsNothing : Setting → (start : ℕ) → Type 0
BeginsNothing setting start = (end : ℕ) → start < end → LeadsTo setting main_stack start end →
    ⊥
