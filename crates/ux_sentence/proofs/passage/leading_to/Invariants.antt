use Rattle.ux_sentence.proofs.PassageLemmas.{IsKnown}
use Rattle.ux_sentence.proofs.passage.leading_to.Given as goal

-- what the steps from the place on tell
abbrev pub invariant-loop-place : goal.invariant-loop-place
invariant-loop-place l = IsKnown l.steps l.last l.place l.states.keys

abbrev pub decreases-loop-place : goal.decreases-loop-place
decreases-loop-place l = l.place
