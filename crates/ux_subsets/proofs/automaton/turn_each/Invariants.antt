use Rattle.std.proofs.Common.{◌≡◌, ◌++◌, take, drop}
use Rattle.ux_subsets.specs.Paths.{reversed}
use Rattle.ux_subsets.proofs.automaton.turn_each.Given as goal

-- the links so far are turned, the others are as they were
abbrev pub invariant-loop-place : goal.invariant-loop-place
invariant-loop-place l = l.links ≡ reversed l.last (take l.place l.fn.links) ++ drop l.place l.fn.links
