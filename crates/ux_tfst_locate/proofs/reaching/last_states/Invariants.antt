use Rattle.ux_tfst_locate.specs.Reaching.{IsLast}
use Rattle.ux_tfst_locate.proofs.ReachingLemmas.{AreMarkedTo}
use Rattle.ux_tfst_locate.proofs.reaching.last_states.Given as goal

abbrev pub invariant-loop-place : goal.invariant-loop-place
invariant-loop-place l = AreMarkedTo IsLast l.places l.marks.items l.place-index
