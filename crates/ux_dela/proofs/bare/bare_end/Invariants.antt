use Rattle.std.proofs.Common.{take}
use Rattle.ux_dela.specs.Reading.{IsBare}
use Rattle.ux_dela.proofs.bare.bare_end.Given as goal

-- the bytes so far belong to the part
abbrev pub invariant-loop-place : goal.invariant-loop-place
invariant-loop-place l = IsBare l.fn.sign (take l.place l.text)
