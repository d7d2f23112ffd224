use Rattle.std.proofs.Common.{reverse, take}
use Rattle.ux_walk.specs.Courses.{put_events}
use Rattle.ux_walk.specs.Configurations.{Notes}
use Rattle.ux_walk.proofs.reached.Reached.put_out.Given as goal

-- the events of the pieces so far were noted
abbrev pub invariant-loop-piece : goal.invariant-loop-piece
invariant-loop-piece l = Notes l.fn.self l.self
    (reverse (put_events (take l.piece-index l.output))) l.fn.events l.number
