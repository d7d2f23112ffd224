use Rattle.ux_elag.specs.Prepared.{Notes}
use Rattle.ux_elag.proofs.PreparedLemmas.{AreNotedTo}
use Rattle.ux_elag.proofs.prepared.note_reading.Given as goal

abbrev pub invariant-loop-index : goal.invariant-loop-index
invariant-loop-index l = AreNotedTo (Notes l.reading) l.fn.rules l.rules l.index
