use Rattle.std.proofs.Common.{◌≡◌, map, take}
use Rattle.ux_flatten.specs.Making.{size_at, size_from, word_at}
use Rattle.ux_flatten.proofs.sizes.sizes_above.Given as goal

-- the sizes so far
abbrev pub invariant-loop-graph : goal.invariant-loop-graph
invariant-loop-graph l =
    l.row.items ≡ map (size_from (word_at l.words) (size_at l.below)) (take l.graph-index l.graphs)
