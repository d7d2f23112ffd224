use Rattle.std.proofs.Common.{◌≡◌, ◌++◌}
use Rattle.std.specs.List.{flat_map, range_with_len}
use Rattle.ux_flatten.specs.Negative.{rules_at}
use Rattle.ux_flatten.proofs.negative.push_over.Given as goal

-- the rules so far
abbrev pub invariant-loop-place : goal.invariant-loop-place
invariant-loop-place l = l.rules.items ≡ l.initial.rules.items
    ++ flat_map (rules_at l.count l.stands l.closers l.before) (range_with_len 0 l.place)
