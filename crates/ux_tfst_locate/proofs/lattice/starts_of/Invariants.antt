use Rattle.ux_tfst_locate.specs.Lattices.{AreStartsTo}
use Rattle.ux_tfst_locate.proofs.lattice.starts_of.Given as goal

abbrev pub invariant-loop-place : goal.invariant-loop-place
invariant-loop-place l = AreStartsTo l.arcs l.place l.starts.items
