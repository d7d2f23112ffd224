use Rattle.std.proofs.Common.{◌≡◌, ◌++◌, drop}
use Rattle.ux_flatten.specs.Negative.{rules_from}
use Rattle.ux_flatten.proofs.negative.push_rules.Given as goal

-- the rules so far, with those of the states that are left
abbrev pub invariant-loop-a : goal.invariant-loop-a
invariant-loop-a l = l.rules.items ++ rules_from l.count l.a (drop l.a l.states)
    ≡ l.initial.rules.items ++ rules_from l.count 0 l.states
