use Rattle.std.proofs.Common.{◌≡◌, take}
use Rattle.ux_elag.specs.Prepared.{parts_in}
use Rattle.ux_elag.proofs.keeping.parts_of.Given as goal

abbrev pub invariant-loop-rule : goal.invariant-loop-rule
invariant-loop-rule l = l.parts.items ≡ parts_in (take l.rule-index l.rules)
