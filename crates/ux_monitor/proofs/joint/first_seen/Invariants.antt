use Rattle.ux_monitor.specs.Parts.{Begins}
use Rattle.ux_monitor.proofs.PartsLemmas.{AreReached}
use Rattle.ux_monitor.proofs.joint.first_seen.Given as goal

abbrev pub invariant-loop-index : goal.invariant-loop-index
invariant-loop-index l =
    AreReached l.parts l.fn.memories l.memories l.seen.items l.index (Begins l.parts)
