use Rattle.std.proofs.Common.{length}
use Rattle.ux_digraph.proofs.GroupsLemmas.{IsJoining}
use Rattle.ux_digraph.proofs.grouping.join.Given as goal

abbrev pub invariant-loop-group : goal.invariant-loop-group
invariant-loop-group l = IsJoining l.fn.groups.items l.place l.groups.items

abbrev pub decreases-loop-group : goal.decreases-loop-group
decreases-loop-group l = length l.groups.items
