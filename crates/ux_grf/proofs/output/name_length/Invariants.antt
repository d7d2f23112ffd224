use Rattle.std.proofs.Common.{◌≡◌, ◌+◌, drop}
use Rattle.ux_grf.specs.Output.{name_len}
use Rattle.ux_grf.proofs.output.name_length.Given as goal

-- so far all is of the name
abbrev pub invariant-loop-place : goal.invariant-loop-place
invariant-loop-place l = name_len l.text ≡ l.place + name_len (drop l.place l.text)
