-- Where walks go on behind tokens. Inner: the crate's own functions alone speak of it.
use Rattle.std.specs.Prelude.{◌≡◌, ◌↔◌, ◌⊎◌, ◌+◌, ◌<◌, ◌≤◌, ℕ, Contains, length}
use Rattle.ux_outputs.specs.Rendering.{skip}
use Rattle.ux_meaning.specs.Texts.{IsSpaceAt}
use Rattle.ux_walk.specs.Leads.{LeadsFrom, Stack}
use Rattle.ux_walk.specs.Settings.{Setting}
use Rattle.ux_automaton.specs.declared.onward.Onward.{Onward}
use Rattle.ux_automaton.specs.declared.step.Landing.{Landing}
use Rattle.ux_automaton.specs.Fronts.{Store, HoldsIn, IsFrontIn}
use Rattle.ux_automaton.specs.Targets.{IsOver}

-- the front has the stacks that edges of these stacks lead to, from one position to another
pub record IsFrontOver (setting : Setting) (store : Store) (IsThere : Stack → Type 0) (p k : ℕ)
    (front : ℕ) : Type 0 where
  pub there : IsFrontIn store front
  pub stacks : (stack : Stack) → HoldsIn store front stack ↔ IsOver setting IsThere p k stack

-- the fronts behind one token, and behind spans of several, have all stacks to which edges lead
-- over these
pub record IsOnward (setting : Setting) (store : Store) (IsThere : Stack → Type 0) (p : ℕ)
    (onward : Onward) : Type 0 where
  pub token : IsFrontOver setting store IsThere p (skip setting.tokens p + 1) onward.over_token
  pub token_within : (onward.over_token ≡ 0)
      ⊎ (skip setting.tokens p + 1 ≤ length setting.tokens)
  pub landings : (landing : Landing) → Contains onward.landings.items landing →
      (skip setting.tokens p + 1 < landing.at) × (landing.at ≤ length setting.tokens)
      × IsFrontOver setting store IsThere p landing.at landing.front
  pub all : (k : ℕ) (stack : Stack) → IsOver setting IsThere p k stack →
      skip setting.tokens p + 1 < k →
      (landing : Landing) × Contains onward.landings.items landing × (landing.at ≡ k)

-- edges of these stacks take a space alone, or lead into the front behind one token
abbrev pub LeadOnlyTo : Setting → Store → (IsThere : Stack → Type 0) → (p front : ℕ) → Type 0
LeadOnlyTo setting store IsThere p front =
    (k : ℕ) (stack : Stack) → IsOver setting IsThere p k stack →
    (IsSpaceAt setting.tokens p × (k ≡ p + 1))
    ⊎ ((k ≡ skip setting.tokens p + 1) × HoldsIn store front stack)

-- no walk leads from these stacks to any position
abbrev pub LeadNowhere : Setting → (IsThere : Stack → Type 0) → (p : ℕ) → Type 0
LeadNowhere setting IsThere p = (end : ℕ) → LeadsFrom setting IsThere p end → ⊥
