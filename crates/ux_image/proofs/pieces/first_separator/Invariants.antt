use Rattle.std.proofs.Common.{take}
use Rattle.ux_image.specs.Cutting.{HasNoSeparator}
use Rattle.ux_image.proofs.pieces.first_separator.Given as goal

-- no separator so far
abbrev pub invariant-loop-place : goal.invariant-loop-place
invariant-loop-place l = HasNoSeparator (take l.place l.text)
