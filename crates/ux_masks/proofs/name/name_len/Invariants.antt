use Rattle.std.proofs.Common.{◌≤◌, ◌-◌, length, take}
use Rattle.ux_dela.specs.Reading.{characters}
use Rattle.ux_dela.specs.Written.{IsPart}
use Rattle.ux_masks.specs.Signs.{is_sign}
use Rattle.ux_masks.proofs.name.name_len.Given as goal

-- what stands before the place is of the name
abbrev pub invariant-loop-place : goal.invariant-loop-place
invariant-loop-place l = record {
  inside : l.place ≤ length l.text;
  part : IsPart is_sign (characters (take l.place l.text));
}

abbrev pub decreases-loop-place : goal.decreases-loop-place
decreases-loop-place l = length l.text - l.place
