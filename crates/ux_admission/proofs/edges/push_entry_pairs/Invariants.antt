use Rattle.ux_admission.specs.Gains.{Gains, SoBelow, SoAt}
use Rattle.ux_admission.specs.Spots.{IsEntryPair}
use Rattle.ux_admission.proofs.edges.push_entry_pairs.Given as goal

abbrev pub invariant-loop-way : goal.invariant-loop-way
invariant-loop-way l = Gains l.fn.pairs.items l.pairs.items
    (SoBelow l.way-index (SoAt l.ways IsEntryPair))
