use Rattle.ux_monitor.specs.Parts.{Follows, seen_in}
use Rattle.ux_monitor.proofs.PartsLemmas.{AreReached}
use Rattle.ux_monitor.proofs.joint.next_seen.Given as goal

abbrev pub invariant-loop-index : goal.invariant-loop-index
invariant-loop-index l = AreReached l.parts l.fn.memories l.memories l.next.items l.index
    (Follows l.parts (seen_in l.fn.memories) l.seen l.reading)
