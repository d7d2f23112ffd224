use Rattle.ux_report.specs.Words.{AreWordPlacesUpTo}
use Rattle.ux_report.proofs.words.word_places.Given as goal

-- the places of the words so far
abbrev pub invariant-loop-place : goal.invariant-loop-place
invariant-loop-place l = AreWordPlacesUpTo l.text l.place l.places.items
