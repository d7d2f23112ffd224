use Rattle.std.proofs.Common.{take}
use Rattle.ux_admission.specs.Uses.{IsFirstCircular}
use Rattle.ux_admission.proofs.negative_recursion.first_circular.Given as goal

abbrev pub invariant-loop-link : goal.invariant-loop-link
invariant-loop-link l = IsFirstCircular (take l.link-index l.links) l.numbers l.first
