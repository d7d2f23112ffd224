use Rattle.std.proofs.Common.{◌≡◌, map, take}
use Rattle.ux_flatten.specs.Making.{own_size}
use Rattle.ux_flatten.proofs.sizes.own_sizes.Given as goal

-- the sizes so far
abbrev pub invariant-loop-graph : goal.invariant-loop-graph
invariant-loop-graph l = l.row.items ≡ map own_size (take l.graph-index l.graphs)
