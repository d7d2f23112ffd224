use Rattle.std.proofs.Common.{◌-◌, ◌≤◌}
use Rattle.ux_tokens.specs.Spaces.{IsMoved}
use Rattle.ux_tokens.proofs.spaces.move_down.Given as goal

-- the bytes that are moved so far
abbrev pub invariant-loop-moved : goal.invariant-loop-moved
invariant-loop-moved l = record {
  within : l.moved ≤ l.len;
  so_far : IsMoved l.initial.bytes l.bytes l.from l.to l.moved;
}

abbrev pub decreases-loop-moved : goal.decreases-loop-moved
decreases-loop-moved l = l.len - l.moved
