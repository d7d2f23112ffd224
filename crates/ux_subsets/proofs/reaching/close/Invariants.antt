use Rattle.std.proofs.Common.{◌≡◌, ◌++◌, map, take}
use Rattle.ux_subsets.specs.Building.{closing}
use Rattle.ux_subsets.proofs.reaching.close.Given as goal

abbrev pub invariant-loop-over : goal.invariant-loop-over
invariant-loop-over l = l.links.items ≡ l.fn.links.items ++ map (closing l.last) (take l.over-index l.overs)
