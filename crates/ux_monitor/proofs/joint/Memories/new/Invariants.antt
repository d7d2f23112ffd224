use Rattle.std.specs.Prelude.{All, ◌≡◌, length}
use Rattle.ux_monitor.proofs.PartsLemmas.{IsBlank}
use Rattle.ux_monitor.proofs.joint.Memories.new.Given as goal

abbrev pub invariant-loop-rule : goal.invariant-loop-rule
invariant-loop-rule l = record {
  counted : length l.each.items ≡ l.rule;
  blank : All IsBlank l.each.items;
}
