use Rattle.ux_image_lexicon.specs.Summing.{AreSumsTo}
use Rattle.ux_image_lexicon.proofs.sums.sums_of.Given as goal

-- the states so far have their sums
abbrev pub invariant-loop-number : goal.invariant-loop-number
invariant-loop-number l = AreSumsTo l.coded l.number l.sums.items
