-- What a monitor remembers. All of it is right of the rule and its kinds, whatever the list.
use Rattle.std.specs.Prelude.{◌≡◌, ℕ, ◌<◌, List, Option, Contains, Some, Vec, length, map, slice_get}
use Rattle.ux_monitor.specs.declared.rule.Step.{Step}
use Rattle.ux_monitor.specs.declared.watching.Seen.{Seen}
use Rattle.ux_monitor.specs.declared.memory.Taken.{Taken}
use Rattle.ux_monitor.specs.declared.memory.Memory.{Memory}
use Rattle.ux_monitor.specs.Monitors.{kind_at}
use Rattle.ux_monitor.specs.Watches.{IsFirst, IsNext}
use Rattle.ux_monitor.specs.Steps.{Among}
use Rattle.ux_monitor.specs.Owing.{TellsWell}
use Rattle.ux_monitor.specs.Numbers.{IsSame}

-- the tests of each kind
abbrev pub kinds_in : {Z : Type 0} → List (Vec ℕ Z) → List (List ℕ)
kinds_in {Z} kinds = map (λ (kind : Vec ℕ Z). kind.items) kinds

-- the number stands for what is seen
abbrev pub IsAt : List Seen → ℕ → Seen → Type 0
IsAt states number seen = slice_get states number ≡ Some seen

-- numbers go on standing for what they stood for
abbrev pub KeepsNumbers : (old new : List Seen) → Type 0
KeepsNumbers old new = (number : ℕ) (seen : Seen) → IsAt old number seen → IsAt new number seen

-- this says the same as what is seen before the first reading
abbrev pub BeginsAs : List Step → Seen → Type 0
BeginsAs steps seen = (first : Seen) × IsFirst steps first × IsSame first seen

-- after a reading that passes these tests, `later` says the same as what is seen
abbrev pub LeadsTo : List Step → (ends passed : List ℕ) → (seen later : Seen) → Type 0
LeadsTo steps ends passed seen later =
    (next : Seen) × IsNext steps ends (Among passed) seen 0 next × IsSame next later

-- a reading of the kind leads from what has the one number to what has the other
pub record IsStep (steps : List Step) (ends : List ℕ) (kinds : List (List ℕ)) (states : List Seen)
    (taken : Taken) (number : ℕ) : Type 0 where
  pub known : taken.kind < length kinds
  pub seen : Seen
  pub here : IsAt states taken.seen seen
  pub later : Seen
  pub there : IsAt states number later
  pub leads : LeadsTo steps ends (kind_at kinds taken.kind) seen later

-- what is remembered is right: what was seen, the number of the first, and the steps
pub record AreRight (steps : List Step) (ends : List ℕ) (kinds : List (List ℕ))
    (states : List Seen) (first : Option ℕ) (next : List (Taken × ℕ)) : Type 0 where
  pub tells : (seen : Seen) → Contains states seen → TellsWell steps ends seen
  pub begins : (number : ℕ) → first ≡ Some number →
      (seen : Seen) × IsAt states number seen × BeginsAs steps seen
  pub leads : (taken : Taken) (number : ℕ) → Contains next (taken, number) →
      IsStep steps ends kinds states taken number

abbrev pub IsRemembered : List Step → (ends : List ℕ) → (kinds : List (List ℕ)) → Memory → Type 0
IsRemembered steps ends kinds memory =
    AreRight steps ends kinds memory.states.keys memory.first memory.next.entries
