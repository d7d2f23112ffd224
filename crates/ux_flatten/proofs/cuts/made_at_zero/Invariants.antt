use Rattle.std.proofs.Common.{◌≤◌}
use Rattle.ux_flatten.specs.Cutting.{AreMade}
use Rattle.ux_flatten.proofs.cuts.made_at_zero.Given as goal

-- the copies at the depth that is left
abbrev pub invariant-loop-left : goal.invariant-loop-left
invariant-loop-left l = record {
  most : l.left ≤ l.depth;
  are : AreMade l.source.graphs.items l.depth l.left l.made;
}

abbrev pub decreases-loop-left : goal.decreases-loop-left
decreases-loop-left l = l.left
