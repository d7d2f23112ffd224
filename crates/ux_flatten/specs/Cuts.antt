-- Where a depth may leave out a call: nowhere, or in no context that may not follow. The manual, on
-- flattening a grammar. Public: the crate's public contracts speak of it.
use Rattle.std.specs.Prelude.{◌≡◌, ℕ, suc, List, [], ◌∷◌, ◌⊎◌}
use Rattle.ux_net.specs.declared.label.Label.TheVariants.{Call}
use Rattle.ux_net.specs.Words.{Sign, negative, Letter, Step, Grammar, Run, IsWord, opens, mark_of}

-- the graph has a word; whether the graphs that the word calls have one isn't asked
abbrev pub HasWord : Grammar → ℕ → Type 0
HasWord grammar g = (word : List Letter) × IsWord g (grammar.graph g) word

-- a step of graph g calls graph h
pub record Calls (grammar : Grammar) (g h : ℕ) (step : Step) : Type 0 where
  pub inside : (grammar.graph g).IsStep step
  pub calls : step.labels ≡ Call h ∷ []

module _ (grammar : Grammar) where
  -- A negative unit begins at this place: the body of a negative context, or of one that opens at a
  -- negative step.
  pub data IsNegativeUnit (g : ℕ) : ℕ → Type 0 where
    of_negative : (step : Step) → (grammar.graph g).IsStep step →
        mark_of step.labels ≡ opens negative → IsNegativeUnit g step.to
    within : {first : ℕ} {word : List Letter} (sign : Sign) (step : Step) →
        IsNegativeUnit g first → Run g (grammar.graph g) first step.from word →
        (grammar.graph g).IsStep step → mark_of step.labels ≡ opens sign →
        IsNegativeUnit g step.to

  -- a negative step: a run from the first place of a negative unit leads to its start
  pub record IsNegativeStep (g : ℕ) (step : Step) : Type 0 where
    pub first : ℕ
    pub unit : IsNegativeUnit g first
    pub word : List Letter
    pub run : Run g (grammar.graph g) first step.from word

  module _ (depth : ℕ) where
    -- a copy of graph g at depth d is made for the main graph to the depth
    pub data HasCopy : (g d : ℕ) → Type 0 where
      main : HasCopy 1 depth
      by_call : {g d h : ℕ} (step : Step) → HasCopy g (suc d) → Calls grammar g h step →
          HasWord grammar h → HasCopy h d

    -- a negative copy is: one whose call is a negative step, or stands in a negative copy
    pub data HasNegativeCopy : (g d : ℕ) → Type 0 where
      by_step : {g d h : ℕ} (step : Step) → HasCopy g (suc d) → Calls grammar g h step →
          HasWord grammar h → IsNegativeStep g step → HasNegativeCopy h d
      by_caller : {g d h : ℕ} (step : Step) → HasNegativeCopy g (suc d) → Calls grammar g h step →
          HasWord grammar h → HasNegativeCopy h d

    -- a call in a copy at depth 0 leaves the place, and the copy or the call's step is negative
    pub record IsNegativeCut (g node : ℕ) : Type 0 where
      pub step : Step
      pub called : ℕ
      pub calls : Calls grammar g called step
      pub from : step.from ≡ node
      pub cut : HasNegativeCopy g 0 ⊎ (HasCopy g 0 × IsNegativeStep g step)

    -- no copy at depth 0 has a call
    abbrev pub LeavesOutNothing : Type 0
    LeavesOutNothing =
        (g h : ℕ) (step : Step) → HasCopy g 0 → Calls grammar g h step → ⊥
