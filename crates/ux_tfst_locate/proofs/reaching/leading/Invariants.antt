use Rattle.ux_tfst_locate.specs.Lattices.{rows_of}
use Rattle.ux_tfst_locate.proofs.ReachingLemmas.{AreLeadingFrom}
use Rattle.ux_tfst_locate.proofs.reaching.leading.Given as goal

abbrev pub invariant-loop-done : goal.invariant-loop-done
invariant-loop-done l = AreLeadingFrom l.lattice.places.items (rows_of l.lattice) l.marks.items l.done
