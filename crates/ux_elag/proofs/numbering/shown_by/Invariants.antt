use Rattle.ux_elag.proofs.ShownLemmas.{AreShown}
use Rattle.ux_elag.proofs.numbering.shown_by.Given as goal

abbrev pub invariant-loop-index : goal.invariant-loop-index
invariant-loop-index l = AreShown l.places l.count l.index l.shown.items
