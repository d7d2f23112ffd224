use Rattle.ux_concordance.specs.Ends.{IsSharedEnd}
use Rattle.ux_concordance.proofs.characters.shared_end.Given as goal

-- the bytes so far are a shared end
abbrev pub invariant-loop-shared : goal.invariant-loop-shared
invariant-loop-shared l = IsSharedEnd l.a l.b l.shared
