use Rattle.ux_walk.proofs.RaisedLemmas.{AreRaisedBefore}
use Rattle.ux_walk.proofs.words.raised_of.Given as goal

-- what has to be listed of the texts so far is listed
abbrev pub invariant-loop-number : goal.invariant-loop-number
invariant-loop-number l = AreRaisedBefore l.alphabet l.texts l.number l.raised.items
