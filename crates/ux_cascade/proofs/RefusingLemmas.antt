-- What refuses a round refuses its step, and so the cascade.
use Rattle.std.proofs.Common.{ℕ, ◌<◌, List, length, subst, inl, inr}
use Rattle.std.specs.Prelude.{slice_index}
use Rattle.ux_alphabet.specs.Letters.{Letters}
use Rattle.ux_tokens.specs.Tokens.{Token}
use Rattle.ux_tokens.specs.Reading.{HasTooManyTokens}
use Rattle.ux_tokens.proofs.UniqueLemmas.{tokens_unique}
use Rattle.ux_outputs.specs.declared.hit.Hit.{Hit}
use Rattle.ux_cascade.specs.declared.error.CascadeError.{CascadeError}
use Rattle.ux_cascade.specs.declared.error.CascadeError.TheVariants.{NoMemory, TooManyTokens}
use Rattle.ux_cascade.specs.declared.outcome.Round.{Round}
use Rattle.ux_cascade.specs.Cascades.{AreSteps, HasTokens}
use Rattle.ux_cascade.specs.Refusing.{IsTooLong, LeavesTooMany, RefusesCascade, RefusesRound, RefusesStep, RefusesSteps}
use Rattle.ux_cascade.proofs.RoundLemmas.{IsUnderWay, under_way_long}

module _ (alphabet : Letters) (Finds : (step : ℕ) → List Token → List Hit → Type 0) where
  -- a round of a step is refused
  pub step_refused : (step : ℕ) (before : List Token) (count times : ℕ) (earlier rounds : List Round)
      (tokens : List Token) (error : CascadeError) → count < times →
      IsUnderWay alphabet Finds step before count earlier rounds tokens →
      RefusesRound alphabet Finds step tokens error →
      RefusesStep alphabet Finds step times before error
  step_refused step before count times earlier rounds tokens TooManyTokens within under_way long =
      under_way_long alphabet Finds step before count times earlier rounds tokens within under_way long
  step_refused step before count times earlier rounds tokens NoMemory within under_way long = tt

  -- a step is refused
  pub steps_refused : (times : List ℕ) (begin : List Token) (step : ℕ) (rounds : List Round)
      (before : List Token) (error : CascadeError) → step < length times →
      AreSteps alphabet Finds times begin step rounds before →
      RefusesStep alphabet Finds step (slice_index times step) before error →
      RefusesSteps alphabet Finds times begin error
  steps_refused times begin step rounds before TooManyTokens within steps long = record {
    step = step;
    within = within;
    rounds = rounds;
    before = before;
    steps = steps;
    long = long;
  }
  steps_refused times begin step rounds before NoMemory within steps long = tt

  -- the steps are refused
  pub cascade_refused : (times text : List ℕ) (begin : List Token) (error : CascadeError) →
      HasTokens alphabet text begin → RefusesSteps alphabet Finds times begin error →
      RefusesCascade alphabet Finds times text error
  cascade_refused times text begin TooManyTokens has long = inr (begin, has, long)
  cascade_refused times text begin NoMemory has long = tt

  -- a text that has few tokens, and of which no round leaves too many, isn't too long
  pub not_too_long : (times text : List ℕ) (begin : List Token) → HasTokens alphabet text begin →
      (HasTooManyTokens alphabet text → ⊥) → (LeavesTooMany alphabet Finds times begin → ⊥) →
      IsTooLong alphabet Finds times text → ⊥
  not_too_long times text begin has few left (inl many) = few many
  not_too_long times text begin has few left (inr (tokens, are, long)) =
      left (subst (λ (t : List Token). LeavesTooMany alphabet Finds times t)
      (tokens_unique alphabet text tokens begin are.are has.are) long)
