use Rattle.ux_closure.specs.Holding.{Holds}
use Rattle.ux_closure.specs.Meeting.{known}
use Rattle.ux_closure.proofs.Rounds.{Closing, greatest}
use Rattle.ux_closure.proofs.passing.closure.Given as goal

-- what was met is reached, and stands before the place were gone on from
abbrev pub invariant-loop-from : goal.invariant-loop-from
invariant-loop-from l = Closing l.net l.is_spaced (Holds l.fn.stacks.links.keys l.stands)
    l.fn.stacks.links.keys (known l.stacks.links.keys l.met) l.from

abbrev pub decreases-loop-from : goal.decreases-loop-from
decreases-loop-from l = greatest l.net l.is_spaced (known l.stacks.links.keys l.met) l.from
