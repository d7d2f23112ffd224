-- Runs of digits, so that each is gone along once. Public: the contracts of the tables speak of it.
use Rattle.std.specs.Prelude.{ℕ, ◌<◌, ◌≤◌, List}
use Rattle.ux_tokens.specs.Tokens.{Token}
use Rattle.ux_lexical_tables.specs.declared.digits.DigitRun.{DigitRun}
use Rattle.ux_lexical_tables.specs.Accepting.{IsDigitAt}

-- digits stand at the places of the run, and none at the place after it
pub record IsDigitRun (tokens : List Token) (run : DigitRun) : Type 0 where
  pub each : (place : ℕ) → run.from ≤ place → place < run.to → IsDigitAt tokens place
  pub all : run.from < run.to → IsDigitAt tokens run.to → ⊥
