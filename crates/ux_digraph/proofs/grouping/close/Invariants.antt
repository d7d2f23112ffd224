use Rattle.ux_digraph.specs.Grouping.{AreNumbered}
use Rattle.ux_digraph.proofs.grouping.close.Given as goal

abbrev pub invariant-loop-place : goal.invariant-loop-place
invariant-loop-place l = AreNumbered l.fn.marks.items l.first l.place l.number l.marks.items
