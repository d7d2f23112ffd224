-- What is owed, looked at one by one.
use Rattle.std.specs.List.{All}
use Rattle.std.specs.Prelude.{◌≡◌, ℕ, ◌↔◌, ◌⊎◌, List, [], Contains, IsTrue}
use Rattle.ux_monitor.specs.declared.rule.Sign.TheVariants.{If}
use Rattle.ux_monitor.specs.declared.rule.Step.{Step}
use Rattle.ux_monitor.specs.declared.owing.Obligation.{Obligation}
use Rattle.ux_monitor.specs.declared.watching.Seen.{Seen}
use Rattle.ux_monitor.specs.Monitor.{Closes}
use Rattle.ux_monitor.specs.Watches.{IsIdle, IsPaid, IsLater, WasOwed, IsSettled}
use Rattle.ux_monitor.specs.Steps.{Among}

-- two obligations say the same
pub record IsAlike (a b : Obligation) : Type 0 where
  pub found : a.found ≡ b.found
  pub ifs : a.ifs.items ≡ b.ifs.items
  pub thens : a.thens.items ≡ b.thens.items

-- one more obligation is owed, unless it is idle or an alike one is there
pub record IsKept (old : List Obligation) (one : Obligation) (new : List Obligation) : Type 0 where
  pub only : (o : Obligation) → Contains new o → Contains old o ⊎ IsAlike one o
  pub still : (o : Obligation) → Contains old o → Contains new o
  pub same : Obligation
  pub alike : IsAlike one same
  pub kept : Contains new same ⊎ IsIdle same

-- an if-pair was found, or is where the list ends
abbrev pub Finds : (steps : List Step) (ends : List ℕ) → Obligation → Type 0
Finds steps ends o = IsTrue o.found ⊎ ((p : ℕ) × Contains o.ifs.items p × Closes steps ends (Among []) If p)

-- where the list ends, no if-pair was found, or a then-pair is
abbrev pub IsWell : (steps : List Step) (ends : List ℕ) → Obligation → Type 0
IsWell steps ends o = Finds steps ends o → IsPaid steps ends (Among []) o

-- one obligation was looked at
pub record IsNoted (steps : List Step) (ends passed : List ℕ) (one : Obligation) (old new : List Obligation) : Type 0 where
  pub only : (o : Obligation) → Contains new o → Contains old o ⊎ IsLater steps ends (Among passed) 0 one o
  pub still : (o : Obligation) → Contains old o → Contains new o
  pub settled : IsSettled steps ends (Among passed) one 0 new

-- the first of all obligations were looked at
pub record AreLater (steps : List Step) (ends passed : List ℕ) (all first : List Obligation) (new : List Obligation) : Type 0 where
  pub only : (o : Obligation) → Contains new o → WasOwed steps ends (Among passed) all 0 o
  pub settled : All (λ (was : Obligation). IsSettled steps ends (Among passed) was 0 new) first

-- what is seen tells whether all obligations are well where the list ends
abbrev pub TellsWell : (steps : List Step) (ends : List ℕ) → Seen → Type 0
TellsWell steps ends seen =
    IsTrue seen.is_accepted ↔ ((o : Obligation) → Contains seen.owed.items o → IsWell steps ends o)
