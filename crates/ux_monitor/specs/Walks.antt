-- A walk along free steps, from a list of places ahead.
use Rattle.std.specs.Prelude.{◌≡◌, ℕ, ◌+◌, ◌-◌, ◌*◌, ◌^◌, ◌↔◌, ◌⊎◌, List, [], Contains, length}
use Rattle.ux_monitor.specs.declared.rule.Sign.TheVariants.{Free}
use Rattle.ux_monitor.specs.declared.rule.Step.{Step}
use Rattle.ux_monitor.specs.Rules.{Run}
use Rattle.ux_monitor.specs.Steps.{Marks}

-- free steps lead to the place from one of the places
abbrev pub Reaches : List Step → (from : List ℕ) → ℕ → Type 0
Reaches steps from k = (p : ℕ) × Contains from p × Run steps p k []

-- what was found is followed, or the places to which its free steps lead are ahead
pub record IsWalk (steps : List Step) (from found ahead : List ℕ) : Type 0 where
  pub sound : (k : ℕ) → Contains found k → Reaches steps from k
  pub sound_ahead : (k : ℕ) → Contains ahead k → Reaches steps from k
  pub begins : (k : ℕ) → Contains from k → Contains found k ⊎ Contains ahead k
  pub followed : (k : ℕ) → Contains found k → (t : ℕ) → Marks steps Free k t →
      Contains found t ⊎ Contains ahead t

-- a place ahead is this one, or is among the rest
abbrev pub IsPopped : (ahead rest : List ℕ) (place : ℕ) → Type 0
IsPopped ahead rest place = (k : ℕ) → Contains ahead k ↔ (Contains rest k ⊎ (k ≡ place))

-- what is left to do: places that weren't found, of which each may put a list ahead
abbrev pub work_left : (found ahead : List ℕ) → ℕ
work_left found ahead = (2 ^ 64 - length found) * 2 ^ 64 + length ahead
