-- What is derived is told by some number of levels of negative contexts.
use Rattle.std.proofs.Common.{arith, ℕ, List}
use Rattle.ux_net.specs.Words.{Grammar}
use Rattle.ux_outputs.specs.declared.event.Event.{Event}
use Rattle.ux_meaning.specs.Inputs.{Input}
use Rattle.ux_meaning.specs.Meaning.{Der, DerBy}

module _ (input : Input) (grammar : Grammar) (g i j : ℕ) (events : List Event) where
  -- what the levels derive is derived by some number of them
  pub at_level : (d : Der input grammar g i j events) → DerBy input grammar d.0 g i j events
  at_level d = d.1 d.0 (omega arith)
