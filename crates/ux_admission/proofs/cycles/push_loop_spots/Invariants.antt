use Rattle.ux_admission.specs.Gains.{Gains, SoBelow, SoAt}
use Rattle.ux_admission.specs.Spots.{IsLoopSpot}
use Rattle.ux_admission.proofs.cycles.push_loop_spots.Given as goal

abbrev pub invariant-loop-way : goal.invariant-loop-way
invariant-loop-way l = Gains l.fn.spots.items l.spots.items
    (SoBelow l.way-index (SoAt l.ways (IsLoopSpot l.marks l.numbers)))
