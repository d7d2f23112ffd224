use Rattle.std.proofs.Common.{◌≤◌, ◌-◌, length, take}
use Rattle.ux_dela.specs.Reading.{is_stop, characters}
use Rattle.ux_dela.specs.Written.{IsPart}
use Rattle.ux_dela.proofs.part.part_len.Given as goal

-- what stands before the place is of the part
abbrev pub invariant-loop-stop : goal.invariant-loop-stop
invariant-loop-stop l = record {
  inside : l.place ≤ length l.text;
  part : IsPart (is_stop l.stop) (characters (take l.place l.text));
}

abbrev pub decreases-loop-stop : goal.decreases-loop-stop
decreases-loop-stop l = length l.text - l.place
