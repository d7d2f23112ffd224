use Rattle.std.proofs.Common.{ℕ, ◌<◌, ◌≢◌}
use Rattle.ux_digraph.specs.declared.grouping.Mark.TheVariants.{New}
use Rattle.ux_digraph.specs.Grouping.{Resting, mark_at}
use Rattle.ux_digraph.proofs.grouping.components.Given as goal

abbrev pub invariant-loop-node : goal.invariant-loop-node
invariant-loop-node l = record {
  resting : Resting l.edges l.marks.items l.count;
  met : (u : ℕ) → u < l.node → mark_at l.marks.items u ≢ New;
}
