use Rattle.std.proofs.Common.{take}
use Rattle.ux_walk.specs.Configurations.{AddsFrom, IsPast}
use Rattle.ux_walk.proofs.Stepping.{Among}
use Rattle.ux_walk.proofs.reached.Reached.take_each.Given as goal

-- the courses that go on after the ends so far were added
abbrev pub invariant-loop-end : goal.invariant-loop-end
invariant-loop-end l = AddsFrom l.fn.self l.self l.config (λ before.
    Among (IsPast l.config.at l.here before) (take l.end-index l.ends))
