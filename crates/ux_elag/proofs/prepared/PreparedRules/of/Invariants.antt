use Rattle.std.proofs.Common.{◌≡◌}
use Rattle.std.specs.Prelude.{All, map}
use Rattle.ux_elag.specs.Prepared.{IsPreparedFor}
use Rattle.ux_elag.proofs.prepared.PreparedRules.of.Given as goal

abbrev pub invariant-loop-number : goal.invariant-loop-number
invariant-loop-number l = record {
  same : map (λ rule. rule.rule) l.prepared.items ≡ l.fn.rules.items;
  each : All (IsPreparedFor l.fn.table l.number) l.prepared.items;
}
