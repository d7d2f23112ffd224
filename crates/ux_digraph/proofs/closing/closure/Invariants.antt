use Rattle.std.proofs.Common.{take}
use Rattle.ux_digraph.specs.Marking.{work_left}
use Rattle.ux_digraph.proofs.MarkingLemmas.{IsClosing}
use Rattle.ux_digraph.proofs.closing.closure.Given as goal

abbrev pub invariant-loop-fact : goal.invariant-loop-fact
invariant-loop-fact l =
    IsClosing l.rules (take l.fact-index l.facts) l.size l.marks.items l.work.items

abbrev pub invariant-loop-place : goal.invariant-loop-place
invariant-loop-place l = IsClosing l.rules l.facts l.size l.marks.items l.work.items

abbrev pub decreases-loop-place : goal.decreases-loop-place
decreases-loop-place l = work_left l.marks.items l.work.items
