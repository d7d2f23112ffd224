-- What the monitor has seen after a reading list, and how it goes on.
use Rattle.std.specs.Prelude.{ℕ, ◌↔◌, ◌⊎◌, List, [], ◌∷◌, Contains, IsTrue}
use Rattle.ux_monitor.specs.declared.rule.Sign.{Sign}
use Rattle.ux_monitor.specs.declared.rule.Sign.TheVariants.{If, Then}
use Rattle.ux_monitor.specs.declared.rule.Step.{Step}
use Rattle.ux_monitor.specs.declared.owing.Obligation.{Obligation}
use Rattle.ux_monitor.specs.declared.watching.Seen.{Seen}
use Rattle.ux_monitor.specs.Rules.{Run}
use Rattle.ux_monitor.specs.Monitor.{Moves, Closes, Left, Owes, Passed}

-- no if-pair was found, and none can come
pub record IsIdle (o : Obligation) : Type 0 where
  pub found : IsTrue o.found → ⊥
  pub ifs : (p : ℕ) → Contains o.ifs.items p → ⊥

module _ (steps : List Step) where
  -- what is owed at a split point, from the places of left words
  pub record IsHere (if_places then_places : List ℕ) (o : Obligation) : Type 0 where
    pub found : IsTrue o.found → ⊥
    pub ifs : (k : ℕ) → Contains o.ifs.items k ↔ ((p : ℕ) × Contains if_places p × Run steps p k (If ∷ []))
    pub thens : (k : ℕ) → Contains o.thens.items k ↔ ((p : ℕ) × Contains then_places p × Run steps p k (Then ∷ []))

  -- the mark leads from the beginning to the place
  abbrev pub Opens : Sign → ℕ → Type 0
  Opens mark p = Run steps 0 p (mark ∷ [])

  -- what is owed has what is owed at one more split point, and nothing but what Was owed beside it
  pub record IsOpened (if_places then_places : List ℕ) (Was : Obligation → Type 0) (owed : List Obligation) : Type 0 where
    pub here : Obligation
    pub is_here : IsHere if_places then_places here
    pub kept : Contains owed here ⊎ IsIdle here
    pub only : (o : Obligation) → Contains owed o → IsHere if_places then_places o ⊎ Was o

  -- the monitor before the first reading
  pub record IsFirst (seen : Seen) : Type 0 where
    pub ifs : (p : ℕ) → Contains seen.ifs.items p ↔ Opens If p
    pub thens : (p : ℕ) → Contains seen.thens.items p ↔ Opens Then p
    pub opened : IsOpened seen.ifs.items seen.thens.items (λ o. ⊥) seen.owed.items

module _ (steps : List Step) (ends : List ℕ) (Passes : ℕ → ℕ → Type 0) where
  abbrev pub IsMet : Obligation → (after : List ℕ) → Type 0
  IsMet o after = Owes steps ends Passes (IsTrue o.found) (Contains o.ifs.items) (Contains o.thens.items) after

  -- what was seen after the list: just what is owed stands between the rest and the rule
  pub record Watches (seen : Seen) (before : List ℕ) : Type 0 where
    pub ifs : (p : ℕ) → Contains seen.ifs.items p ↔ Left steps ends Passes If before p
    pub thens : (p : ℕ) → Contains seen.thens.items p ↔ Left steps ends Passes Then before p
    pub owed : (after : List ℕ) → ((o : Obligation) → Contains seen.owed.items o → IsMet o after) ↔ Passed steps ends Passes before after

  -- a then-place closes
  abbrev pub IsPaid : Obligation → Type 0
  IsPaid o = (p : ℕ) × Contains o.thens.items p × Closes steps ends Passes Then p

  -- what is owed after one more reading
  pub record IsLater (r : ℕ) (o later : Obligation) : Type 0 where
    pub unpaid : IsPaid o → ⊥
    pub found : IsTrue later.found ↔ (IsTrue o.found ⊎ ((p : ℕ) × Contains o.ifs.items p × Closes steps ends Passes If p))
    pub ifs : (k : ℕ) → Contains later.ifs.items k ↔ ((p : ℕ) × Contains o.ifs.items p × Moves steps ends Passes p r k)
    pub thens : (k : ℕ) → Contains later.thens.items k ↔ ((p : ℕ) × Contains o.thens.items p × Moves steps ends Passes p r k)

  -- the places of left words after one more reading
  abbrev pub AreLeft : (mark : Sign) (old : List ℕ) (r : ℕ) (new : List ℕ) → Type 0
  AreLeft mark old r new = (p : ℕ) → Contains new p ↔ (Opens steps mark p ⊎ ((k : ℕ) × Contains old k × Moves steps ends Passes k r p))

  -- what is owed after one more reading, for all that was owed
  abbrev pub WasOwed : (old : List Obligation) (r : ℕ) (o : Obligation) → Type 0
  WasOwed old r o = (was : Obligation) × Contains old was × IsLater r was o

  -- what was owed is paid, or is owed later, or can't be missed
  abbrev pub IsSettled : (was : Obligation) (r : ℕ) (new : List Obligation) → Type 0
  IsSettled was r new = IsPaid was ⊎ ((later : Obligation) × IsLater r was later × (Contains new later ⊎ IsIdle later))

  -- one step of the monitor
  pub record IsNext (seen : Seen) (r : ℕ) (next : Seen) : Type 0 where
    pub ifs : AreLeft If seen.ifs.items r next.ifs.items
    pub thens : AreLeft Then seen.thens.items r next.thens.items
    pub opened : IsOpened steps next.ifs.items next.thens.items (WasOwed seen.owed.items r) next.owed.items
    pub each : (was : Obligation) → Contains seen.owed.items was → IsSettled was r next.owed.items
