use Rattle.ux_cascade.proofs.RoundLemmas.{IsUnderWay}
use Rattle.ux_cascade.proofs.rounds.take_rounds.Given as goal

-- each round so far changed the text
abbrev pub invariant-loop-round : goal.invariant-loop-round
invariant-loop-round g l =
    IsUnderWay l.alphabet (g.F.Finder.finds l.finder) l.step l.fn.text l.round
    l.fn.rounds.items l.rounds.items l.text
