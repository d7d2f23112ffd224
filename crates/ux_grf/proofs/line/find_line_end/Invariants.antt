use Rattle.std.proofs.Common.{◌≡◌, ◌+◌, drop}
use Rattle.ux_grf.specs.Lines.{line_end}
use Rattle.ux_grf.proofs.line.find_line_end.Given as goal

-- the end isn't passed
abbrev pub invariant-loop-place : goal.invariant-loop-place
invariant-loop-place l = line_end l.text ≡ l.place + line_end (drop l.place l.text)
