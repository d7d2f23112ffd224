use Rattle.std.proofs.Common.{◌≡◌}
use Rattle.ux_elag.specs.Ready.{AreKinds}
use Rattle.ux_elag.proofs.KindsLemmas.{IsNumber}
use Rattle.ux_elag.proofs.passing.kinds_of.Given as goal

abbrev pub invariant-loop-reading : goal.invariant-loop-reading
invariant-loop-reading l = record {
  rule : l.monitor.rule ≡ l.fn.monitor.rule;
  kinds : AreKinds l.steps (IsNumber l.readings) l.reading-index l.monitor.kinds l.kinds.items;
}
