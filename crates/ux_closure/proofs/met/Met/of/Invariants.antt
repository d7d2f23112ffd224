use Rattle.std.proofs.Common.{◌≡◌, false, take}
use Rattle.ux_closure.proofs.PutLemmas.{HasAll}
use Rattle.ux_closure.proofs.met.Met.of.Given as goal

-- the stands so far were met
abbrev pub invariant-loop-stand : goal.invariant-loop-stand
invariant-loop-stand l = record {
  stands : HasAll l.met.stands.keys (take l.stand-index l.stands);
  ends : l.met.ends ≡ false;
}
