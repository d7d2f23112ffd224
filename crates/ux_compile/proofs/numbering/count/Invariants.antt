use Rattle.std.proofs.Common.{◌≡◌}
use Rattle.ux_compile.specs.Construct.{number}
use Rattle.ux_compile.proofs.numbering.count.Given as goal

abbrev pub invariant-loop-place : goal.invariant-loop-place
invariant-loop-place l = l.count ≡ number l.places l.place
