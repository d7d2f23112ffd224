use Rattle.std.proofs.Common.{◌≡◌, ◌++◌, drop}
use Rattle.ux_flatten.specs.Cutting.{made_callees}
use Rattle.ux_flatten.specs.Making.{has_word}
use Rattle.ux_flatten.proofs.cuts.made_callees_of.Given as goal

-- what the graphs so far call, with what those call that are left
abbrev pub invariant-loop-k : goal.invariant-loop-k
invariant-loop-k l =
    l.list.items ++ made_callees (has_word l.source) l.copies l.k (drop l.k l.source.graphs.items)
    ≡ made_callees (has_word l.source) l.copies 0 l.source.graphs.items
