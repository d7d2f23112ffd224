use Rattle.std.proofs.Common.{◌-◌, length}
use Rattle.ux_admission.specs.Finding.{IsFinding}
use Rattle.ux_admission.proofs.FindingLemmas.{box}
use Rattle.ux_admission.proofs.closers.find.Given as goal

abbrev pub invariant-loop-next : goal.invariant-loop-next
invariant-loop-next l = IsFinding l.leading l.found.keys l.rows.items l.jumps.items l.next

abbrev pub decreases-loop-next : goal.decreases-loop-next
decreases-loop-next l =
    length (box (length l.leading.sources.items) (length l.leading.sources.items)) - l.next
