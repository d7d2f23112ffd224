use Rattle.std.proofs.Common.{◌≡◌, take}
use Rattle.ux_grf.proofs.targets.places.Given as goal

abbrev pub invariant-loop-target : goal.invariant-loop-target
invariant-loop-target l = l.places.items ≡ take l.target-index l.targets
