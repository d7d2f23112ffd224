use Rattle.ux_elag.specs.Codes.{NotesAgain}
use Rattle.ux_elag.proofs.PreparedLemmas.{AreNotedTo}
use Rattle.ux_elag.proofs.prepared.note_like.Given as goal

abbrev pub invariant-loop-index : goal.invariant-loop-index
invariant-loop-index l = AreNotedTo (NotesAgain l.like) l.fn.rules l.rules l.index
