use Rattle.std.proofs.Common.{◌≡◌, ◌<◌, ◌-◌, ◌^◌, ◌++◌, drop}
use Rattle.ux_dict.specs.Keys.{number_of}
use Rattle.ux_dict.proofs.keys.number.Given as goal

-- the bytes so far are read, and fit
abbrev pub invariant-loop-place : goal.invariant-loop-place
invariant-loop-place l = record {
  small : l.number < 256 ^ l.place;
  left : number_of l.missing (8 - l.place) l.number (drop l.place (l.front ++ l.more))
      ≡ number_of l.missing 8 0 (l.front ++ l.more);
}
