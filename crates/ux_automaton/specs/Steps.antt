-- What one step of the automaton gives: where walks from a front go on from a position. Public: the
-- crate's public contracts speak of it.
use Rattle.std.specs.Prelude.{◌≡◌, ◌↔◌, ◌⊎◌, ◌≤◌, ◌<◌, ◌+◌, ℕ, Contains, IsTrue, length}
use Rattle.ux_outputs.specs.Rendering.{skip}
use Rattle.ux_walk.specs.Leads.{LeadsFrom}
use Rattle.ux_automaton.specs.declared.step.Step.{Step}
use Rattle.ux_automaton.specs.declared.step.Landing.{Landing}
use Rattle.ux_automaton.specs.Fronts.{Known, Holds, IsFront}

-- from one of the landings a walk leads to the end
abbrev pub LeadsFromLanding : Known → Step → (end : ℕ) → Type 0
LeadsFromLanding known step end = (landing : Landing) × Contains step.landings.items landing
    × LeadsFrom known.setting (Holds known landing.front) landing.at end

-- by the step a walk ends here, or goes on after a space, after one token behind an optional space,
-- or after a span of several
abbrev pub LeadsOn : Known → Step → (at end : ℕ) → Type 0
LeadsOn known step at end =
    (IsTrue step.ends × (end ≡ at))
    ⊎ (LeadsFrom known.setting (Holds known step.over_space) (at + 1) end
    ⊎ (LeadsFrom known.setting (Holds known step.over_token)
    (skip known.setting.tokens at + 1) end
    ⊎ LeadsFromLanding known step end))

-- a landing lies after the token behind an optional space, within the text
pub record IsLanding (known : Known) (at : ℕ) (landing : Landing) : Type 0 where
  pub front : IsFront known landing.front
  pub later : skip known.setting.tokens at + 1 < landing.at
  pub within : landing.at ≤ length known.setting.tokens

-- the step tells exactly how walks from the front go on at the position, and stays within the text
pub record IsStep (old new : Known) (front at : ℕ) (step : Step) : Type 0 where
  pub over_space : IsFront new step.over_space
  pub over_token : IsFront new step.over_token
  pub space_within : (step.over_space ≡ 0) ⊎ (at + 1 ≤ length new.setting.tokens)
  pub token_within : (step.over_token ≡ 0)
      ⊎ (skip new.setting.tokens at + 1 ≤ length new.setting.tokens)
  pub landings : (landing : Landing) → Contains step.landings.items landing →
      IsLanding new at landing
  pub exactly : (end : ℕ) →
      LeadsFrom old.setting (Holds old front) at end ↔ LeadsOn new step at end
