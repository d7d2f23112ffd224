use Rattle.std.proofs.Common.{◌≤◌}
use Rattle.ux_closure.specs.Meeting.{Adds, IsAfterPlaces, known}
use Rattle.ux_closure.proofs.passing.round.Given as goal

-- what is one step on from the stands so far was met
abbrev pub invariant-loop-place : goal.invariant-loop-place
invariant-loop-place l = record {
  from : l.from ≤ l.place;
  to : l.place ≤ l.to;
  adds : Adds (IsAfterPlaces l.net l.is_spaced (known l.fn.stacks.links.keys l.fn.met) l.from
      l.place) (known l.fn.stacks.links.keys l.fn.met) (known l.stacks.links.keys l.met);
}
