use Rattle.std.proofs.Common.{◌≡◌, ◌++◌, drop}
use Rattle.ux_flatten.specs.Cutting.{callees_in}
use Rattle.ux_flatten.specs.Making.{word_at}
use Rattle.ux_flatten.proofs.cuts.push_all.Given as goal

-- what the states so far call, with what those call that are left
abbrev pub invariant-loop-state : goal.invariant-loop-state
invariant-loop-state l =
    l.list.items ++ callees_in (word_at l.words) (drop l.state-index l.states)
    ≡ l.initial.list.items ++ callees_in (word_at l.words) l.states
