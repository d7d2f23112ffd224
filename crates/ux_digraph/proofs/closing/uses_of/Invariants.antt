use Rattle.std.proofs.Common.{◌≡◌, length, map, take}
use Rattle.ux_digraph.specs.Marking.{HaveUses}
use Rattle.ux_digraph.proofs.closing.uses_of.Given as goal

abbrev pub invariant-loop-rule : goal.invariant-loop-rule
invariant-loop-rule l = record {
  len : length l.uses.items ≡ l.size;
  uses : HaveUses (take l.rule-index l.rules) (map (λ row. row.items) l.uses.items);
}
