use Rattle.ux_tfst_locate.specs.Reaching.{IsFirst}
use Rattle.ux_tfst_locate.proofs.ReachingLemmas.{AreMarkedTo}
use Rattle.ux_tfst_locate.proofs.reaching.first_states.Given as goal

abbrev pub invariant-loop-place : goal.invariant-loop-place
invariant-loop-place l = AreMarkedTo IsFirst l.places l.marks.items l.place-index
