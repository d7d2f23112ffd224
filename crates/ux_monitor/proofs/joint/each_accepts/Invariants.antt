use Rattle.ux_monitor.proofs.PartsLemmas.{AcceptFirst}
use Rattle.ux_monitor.proofs.joint.each_accepts.Given as goal

abbrev pub invariant-loop-index : goal.invariant-loop-index
invariant-loop-index l = AcceptFirst l.memories l.seen l.index l.all
