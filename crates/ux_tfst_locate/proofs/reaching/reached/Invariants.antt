use Rattle.ux_tfst_locate.specs.Lattices.{rows_of}
use Rattle.ux_tfst_locate.proofs.ReachingLemmas.{AreReachedTo}
use Rattle.ux_tfst_locate.proofs.reaching.reached.Given as goal

abbrev pub invariant-loop-at : goal.invariant-loop-at
invariant-loop-at l = AreReachedTo l.lattice.places.items (rows_of l.lattice) l.marks.items l.at
