use Rattle.std.proofs.Common.{drop}
use Rattle.ux_digraph.proofs.MarkingLemmas.{IsLook}
use Rattle.ux_digraph.proofs.closing.apply_all.Given as goal

abbrev pub invariant-loop-rule : goal.invariant-loop-rule
invariant-loop-rule l =
    IsLook l.row l.fn.marks.items l.fn.work.items l.marks.items l.work.items
    (drop l.rule-index l.row)
