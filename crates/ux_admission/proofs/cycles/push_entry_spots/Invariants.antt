use Rattle.ux_admission.specs.Gains.{Gains, SoBelow, SoAt}
use Rattle.ux_admission.specs.Spots.{IsEntrySpot}
use Rattle.ux_admission.proofs.cycles.push_entry_spots.Given as goal

abbrev pub invariant-loop-way : goal.invariant-loop-way
invariant-loop-way l = Gains l.fn.spots.items l.spots.items
    (SoBelow l.way-index (SoAt l.ways (IsEntrySpot l.numbers)))
