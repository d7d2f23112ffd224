-- Landings: fronts behind spans of several tokens. Inner: the crate's own functions alone speak of it.
use Rattle.std.specs.Prelude.{◌≡◌, ◌↔◌, ◌<◌, ℕ, List, Contains}
use Rattle.ux_closure.specs.declared.stand.Stand.{Stand}
use Rattle.ux_automaton.specs.declared.step.Landing.{Landing}
use Rattle.ux_automaton.specs.declared.target.Target.{Target}
use Rattle.ux_automaton.specs.Fronts.{Store, HasStand, IsFrontIn}

-- the front has exactly the targets at a position
pub record IsFrontAt (store : Store) (targets : List Target) (at front : ℕ) : Type 0 where
  pub there : IsFrontIn store front
  pub stands : (stand : Stand) →
      HasStand store front stand ↔ Contains targets (record { at = at; stand = stand })

-- the landings are the fronts of all targets that lie after a position
pub record AreLandings (store : Store) (targets : List Target) (after : ℕ)
    (landings : List Landing) : Type 0 where
  pub each : (landing : Landing) → Contains landings landing →
      (after < landing.at) × IsFrontAt store targets landing.at landing.front
  pub real : (landing : Landing) → Contains landings landing →
      (stand : Stand) × Contains targets (record { at = landing.at; stand = stand })
  pub all : (target : Target) → Contains targets target → after < target.at →
      (landing : Landing) × Contains landings landing × (landing.at ≡ target.at)
