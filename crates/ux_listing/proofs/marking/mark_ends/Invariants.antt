use Rattle.ux_listing.proofs.MarkedLemmas.{FirstEnds}
use Rattle.ux_listing.proofs.marking.mark_ends.Given as goal

-- the ends so far are marked
abbrev pub invariant-loop-end : goal.invariant-loop-end
invariant-loop-end l = FirstEnds l.seen.keys l.ends l.start l.end-index l.marked.keys
