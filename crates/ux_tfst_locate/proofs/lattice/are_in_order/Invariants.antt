use Rattle.ux_tfst_locate.proofs.ArcsLemmas.{AreInOrderTo}
use Rattle.ux_tfst_locate.proofs.lattice.are_in_order.Given as goal

abbrev pub invariant-loop-place : goal.invariant-loop-place
invariant-loop-place l = AreInOrderTo l.arcs l.place
