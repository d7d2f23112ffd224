use Rattle.ux_state_places.proofs.KeepingLemmas.{AreKeptTo}
use Rattle.ux_state_places.proofs.keeping.kept_places.Given as goal

-- the places so far are kept
abbrev pub invariant-loop-n : goal.invariant-loop-n
invariant-loop-n l = AreKeptTo l.marks l.fn.places l.n l.kept.items
