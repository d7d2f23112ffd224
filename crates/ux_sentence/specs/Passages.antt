-- How it is found whether a sentence has a path: which states lead to the last one by steps up, the
-- steps by the greatest state first. Inner: the crate's own functions alone speak of it.
use Rattle.std.specs.Prelude.{◌≡◌, ◌↔◌, ◌⊎◌, ℕ, ◌<◌, List, Contains}
use Rattle.ux_sentence.specs.declared.sentence.Link.{Link}

-- a step is that of a link that leads to a greater state
abbrev pub IsStepOf : List Link → ℕ × ℕ → Type 0
IsStepOf links step = (step.0 < step.1)
    × ((link : Link) × Contains links link × (link.from ≡ step.0) × (link.to ≡ step.1))

-- the steps are those of the links
pub record AreSteps (links : List Link) (steps : List (ℕ × ℕ)) : Type 0 where
  pub each : (step : ℕ × ℕ) → Contains steps step → IsStepOf links step
  pub all : (link : Link) → Contains links link → link.from < link.to →
      Contains steps (link.from, link.to)

-- the state that a step leaves
abbrev pub left_by : ℕ × ℕ → ℕ
left_by step = step.0

-- steps lead from a state to a state
pub data Leads (steps : List (ℕ × ℕ)) : ℕ → ℕ → Type 0 where
  stays : (state : ℕ) → Leads steps state state
  steps_on : (from middle to : ℕ) → Contains steps (from, middle) → Leads steps middle to →
      Leads steps from to

-- the state that the step leaves is among the states where the one is to which it leads
pub record PassesStep (old : List ℕ) (at : ℕ × ℕ) (new : List ℕ) : Type 0 where
  pub each : (state : ℕ) →
      Contains new state ↔ (Contains old state ⊎ ((state ≡ at.0) × Contains old at.1))
