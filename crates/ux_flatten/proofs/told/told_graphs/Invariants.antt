use Rattle.std.proofs.Common.{◌≡◌, take}
use Rattle.ux_flatten.specs.Flattening.{told}
use Rattle.ux_flatten.proofs.told.told_graphs.Given as goal

-- the graphs so far
abbrev pub invariant-loop-before : goal.invariant-loop-before
invariant-loop-before l = l.graphs.items ≡ take l.before (told l.net)
