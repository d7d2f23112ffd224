use Rattle.std.proofs.Common.{◌≡◌, ◌++◌, drop}
use Rattle.ux_flatten.specs.Negative.{rules_over}
use Rattle.ux_flatten.proofs.negative.push_place.Given as goal

-- the rules so far, with those of the closers that are left
abbrev pub invariant-loop-closer : goal.invariant-loop-closer
invariant-loop-closer l =
    l.rules.items ++ rules_over l.count l.stands l.place (drop l.closer-index l.closers)
    ≡ l.initial.rules.items ++ rules_over l.count l.stands l.place l.closers
