use Rattle.std.proofs.Common.{take}
use Rattle.ux_walk.specs.Joins.{AreListed, Joins, OfBoth}
use Rattle.ux_walk.proofs.joining.join_all.Given as goal

-- the callers so far go on behind each derivation
abbrev pub invariant-loop-waiting : goal.invariant-loop-waiting
invariant-loop-waiting l = AreListed l.fn.events.links.keys l.returns l.derived →
    Joins (OfBoth (take l.waiting-index l.returns) l.derived) l.fn.events.links.keys
    l.events.links.keys l.fn.configs.keys l.configs.keys
