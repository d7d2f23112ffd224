use Rattle.ux_tfst_locate.proofs.ReachingLemmas.{HasMarked}
use Rattle.ux_tfst_locate.proofs.reaching.mark_targets.Given as goal

abbrev pub invariant-loop-arc : goal.invariant-loop-arc
invariant-loop-arc l = HasMarked l.row l.fn.marks.items l.arc-index l.marks.items
