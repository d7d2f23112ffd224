use Rattle.std.proofs.Common.{take}
use Rattle.ux_admission.specs.Spots.{IsLeast}
use Rattle.ux_admission.proofs.spot.least.Given as goal

abbrev pub invariant-loop-spot : goal.invariant-loop-spot
invariant-loop-spot l = IsLeast (take l.spot-index l.spots) l.best
