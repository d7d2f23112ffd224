-- Which grammars are refused for nothing that their runs show. The manual, on graphs and on contexts.
-- Public: contracts of compiling speak of it.
use Rattle.ux_net.specs.Words.{Grammar}
use Rattle.ux_admission.specs.Admissible.{IsAdmissible}
use Rattle.ux_admission.specs.ContextClose.{AreClosed}
use Rattle.ux_admission.specs.NegativeRecursion.{HasNoNegativeRecursion}

-- contexts are closed, and none that may not follow uses what has it
pub record HasSoundContexts (grammar : Grammar) : Type 0 where
  pub closed : AreClosed grammar
  pub no_recursion : HasNoNegativeRecursion grammar

-- and no loop takes nothing, and no unit begins with itself
pub record IsSoundGrammar (grammar : Grammar) : Type 0 where
  pub contexts : HasSoundContexts grammar
  pub admissible : IsAdmissible grammar
