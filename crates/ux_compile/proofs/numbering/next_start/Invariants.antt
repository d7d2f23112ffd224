use Rattle.std.proofs.Common.{◌≡◌}
use Rattle.ux_compile.specs.Construct.{first_chain}
use Rattle.ux_compile.proofs.numbering.next_start.Given as goal

abbrev pub invariant-loop-line : goal.invariant-loop-line
invariant-loop-line l = l.first ≡ first_chain l.places l.place l.line
