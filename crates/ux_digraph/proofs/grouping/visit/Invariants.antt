use Rattle.std.proofs.Common.{◌≢◌}
use Rattle.ux_digraph.specs.declared.grouping.Mark.TheVariants.{New}
use Rattle.ux_digraph.specs.Grouping.{Searching, KeepsMet, mark_at, steps_left}
use Rattle.ux_digraph.proofs.grouping.visit.Given as goal

abbrev pub invariant-loop-group : goal.invariant-loop-group
invariant-loop-group l = record {
  searching : Searching l.edges l.marks.items l.trail.items l.ahead.items l.groups.items l.count;
  keeps : KeepsMet l.fn.marks.items l.marks.items;
  met : mark_at l.marks.items l.node ≢ New;
}

abbrev pub decreases-loop-group : goal.decreases-loop-group
decreases-loop-group l = steps_left l.edges l.marks.items l.ahead.items l.groups.items
