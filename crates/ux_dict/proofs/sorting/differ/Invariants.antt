use Rattle.ux_dict.proofs.RisingLemmas.{DifferBelow}
use Rattle.ux_dict.proofs.sorting.differ.Given as goal

-- the entries so far differ
abbrev pub invariant-loop-place : goal.invariant-loop-place
invariant-loop-place l = DifferBelow l.run l.place
