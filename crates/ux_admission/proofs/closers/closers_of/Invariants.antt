use Rattle.ux_admission.proofs.ClosersLemmas.{AreClosersBelow}
use Rattle.ux_admission.proofs.closers.closers_of.Given as goal

abbrev pub invariant-loop-places : goal.invariant-loop-places
invariant-loop-places l = AreClosersBelow l.graphs l.places-index l.rows.items
