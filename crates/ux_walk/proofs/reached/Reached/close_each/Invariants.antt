use Rattle.std.proofs.Common.{[], take}
use Rattle.ux_walk.specs.Configurations.{AddsFrom}
use Rattle.ux_walk.specs.Courses.{IsClosed}
use Rattle.ux_walk.proofs.Stepping.{Among}
use Rattle.ux_walk.proofs.reached.Reached.close_each.Given as goal

-- the courses that go on at the states so far were added
abbrev pub invariant-loop-closer : goal.invariant-loop-closer
invariant-loop-closer l = AddsFrom l.fn.self l.self l.config (λ before.
    Among (IsClosed l.config.here [] l.config.at before) (take l.closer-index l.closers))
