use Rattle.std.proofs.Common.{◌≡◌, ◌++◌, drop}
use Rattle.ux_flatten.specs.Cutting.{negative_callees}
use Rattle.ux_flatten.specs.Making.{word_at}
use Rattle.ux_flatten.proofs.cuts.push_negative.Given as goal

-- what the negative ones of the states so far call, with what those call that are left
abbrev pub invariant-loop-a : goal.invariant-loop-a
invariant-loop-a l =
    l.list.items ++ negative_callees (word_at l.words) l.negative l.a (drop l.a l.states)
    ≡ l.initial.list.items ++ negative_callees (word_at l.words) l.negative 0 l.states
