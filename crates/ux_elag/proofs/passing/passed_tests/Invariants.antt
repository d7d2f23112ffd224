use Rattle.ux_elag.proofs.StepsLemmas.{ArePassedTo}
use Rattle.ux_elag.proofs.passing.passed_tests.Given as goal

abbrev pub invariant-loop-index : goal.invariant-loop-index
invariant-loop-index l = ArePassedTo l.steps l.reading l.index l.tests.items
