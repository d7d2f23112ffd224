-- When a cascade comes to nothing. Public: the crate's public contracts speak of it.
use Rattle.std.specs.Prelude.{◌⊎◌, ℕ, ◌<◌, List, length, slice_index}
use Rattle.ux_alphabet.specs.Letters.{Letters}
use Rattle.ux_tokens.specs.Tokens.{Token}
use Rattle.ux_tokens.specs.Reading.{HasTooManyTokens}
use Rattle.ux_tokens.specs.declared.text_error.TextError.{TextError}
use Rattle.ux_tokens.specs.declared.text_error.TextError.TheVariants as text_error
use Rattle.ux_outputs.specs.declared.hit.Hit.{Hit}
use Rattle.ux_cascade.specs.declared.error.CascadeError.{CascadeError}
use Rattle.ux_cascade.specs.declared.error.CascadeError.TheVariants.{NoMemory, TooManyTokens}
use Rattle.ux_cascade.specs.declared.outcome.Round.{Round}
use Rattle.ux_cascade.specs.Rewriting.{rewritten}
use Rattle.ux_cascade.specs.Cascades.{AreRounds, AreSteps, HasTokens, RoundResult, left_by}

-- the error by which a text is refused
abbrev pub as_text : TextError → CascadeError
as_text text_error.TooManyTokens = TooManyTokens
as_text text_error.NoMemory = NoMemory

module _ (alphabet : Letters) (Finds : (step : ℕ) → List Token → List Hit → Type 0) where
  -- a round of the step leaves a text with too many tokens
  abbrev pub IsRoundTooLong : (step : ℕ) → List Token → Type 0
  IsRoundTooLong step tokens =
      (hits : List Hit) × Finds step tokens hits
      × HasTooManyTokens alphabet (rewritten tokens hits).text

  -- one of the step's rounds does, and each before it leaves fewer
  pub record IsStepTooLong (step times : ℕ) (before : List Token) : Type 0 where
    pub earlier : List RoundResult
    pub are : AreRounds alphabet Finds step before earlier
    pub within : length earlier < times
    pub long : IsRoundTooLong step (left_by before earlier)

  -- one of the rounds of a step does, and each before it leaves fewer
  pub record LeavesTooMany (times : List ℕ) (begin : List Token) : Type 0 where
    pub step : ℕ
    pub within : step < length times
    pub rounds : List Round
    pub before : List Token
    pub steps : AreSteps alphabet Finds times begin step rounds before
    pub long : IsStepTooLong step (slice_index times step) before

  -- the text has too many tokens, or one of the rounds leaves too many
  abbrev pub IsTooLong : (times text : List ℕ) → Type 0
  IsTooLong times text =
      HasTooManyTokens alphabet text
      ⊎ ((begin : List Token) × HasTokens alphabet text begin × LeavesTooMany times begin)

  -- when each error comes; out of memory may come at any text
  abbrev pub RefusesRound : (step : ℕ) → List Token → CascadeError → Type 0
  RefusesRound step tokens TooManyTokens = IsRoundTooLong step tokens
  RefusesRound step tokens NoMemory = Unit {0}

  abbrev pub RefusesStep : (step times : ℕ) → List Token → CascadeError → Type 0
  RefusesStep step times tokens TooManyTokens = IsStepTooLong step times tokens
  RefusesStep step times tokens NoMemory = Unit {0}

  abbrev pub RefusesSteps : (times : List ℕ) → List Token → CascadeError → Type 0
  RefusesSteps times begin TooManyTokens = LeavesTooMany times begin
  RefusesSteps times begin NoMemory = Unit {0}

  abbrev pub RefusesCascade : (times text : List ℕ) → CascadeError → Type 0
  RefusesCascade times text TooManyTokens = IsTooLong times text
  RefusesCascade times text NoMemory = Unit {0}
