use Rattle.std.proofs.Common.{◌↔◌, take}
use Rattle.std.specs.Prelude.{Contains}
use Rattle.ux_walk.specs.declared.config.Found.{Found}
use Rattle.ux_walk.proofs.reached.Reached.found_of.Given as goal

-- so far each derivation is in the set
abbrev pub invariant-loop-derivation : goal.invariant-loop-derivation
invariant-loop-derivation l = (f : Found) → Contains l.found.keys f
    ↔ Contains (take l.derivation-index l.derivation-items) f
