use Rattle.std.proofs.Common.{◌≡◌, map, take}
use Rattle.ux_admission.specs.Uses.{ends_of}
use Rattle.ux_admission.proofs.negative_recursion.pairs_of.Given as goal

abbrev pub invariant-loop-link : goal.invariant-loop-link
invariant-loop-link l = l.pairs.items ≡ map ends_of (take l.link-index l.links)
