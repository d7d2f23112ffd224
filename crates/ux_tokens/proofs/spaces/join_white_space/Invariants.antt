use Rattle.std.proofs.Common.{◌≡◌, ◌-◌, length}
use Rattle.ux_tokens.specs.Spaces.{IsJoined}
use Rattle.ux_tokens.proofs.spaces.join_white_space.Given as goal

-- what is joined so far
abbrev pub invariant-loop-place : goal.invariant-loop-place
invariant-loop-place l = record {
  len : length l.bytes ≡ length l.initial.bytes;
  so_far : IsJoined l.initial.bytes l.bytes l.joined l.place;
}

abbrev pub decreases-loop-place : goal.decreases-loop-place
decreases-loop-place l = length l.bytes - l.place
