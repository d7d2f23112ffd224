use Rattle.std.specs.List.{AllZip}
use Rattle.ux_elag.specs.Prepared.{IsFresh}
use Rattle.ux_elag.proofs.prepared.without_kinds.Given as goal

abbrev pub invariant-loop-rule : goal.invariant-loop-rule
invariant-loop-rule l = AllZip IsFresh l.yielded l.prepared.items
