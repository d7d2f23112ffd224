use Rattle.std.proofs.Common.{◌≡◌, ◌++◌, drop}
use Rattle.ux_flatten.specs.Cutting.{turned_callees}
use Rattle.ux_flatten.specs.Making.{has_word}
use Rattle.ux_flatten.proofs.cuts.turned_callees_of.Given as goal

-- what the graphs so far turn negative, with what those do that are left
abbrev pub invariant-loop-k : goal.invariant-loop-k
invariant-loop-k l =
    l.list.items ++ turned_callees (has_word l.source) l.made.copies.items l.made.negative.items
    l.negative l.k (drop l.k l.source.graphs.items)
    ≡ turned_callees (has_word l.source) l.made.copies.items l.made.negative.items l.negative 0
    l.source.graphs.items
