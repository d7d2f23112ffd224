use Rattle.std.proofs.Common.{◌≡◌, length, map, take}
use Rattle.ux_rules.specs.Rules.{AreLeaving}
use Rattle.ux_rules.proofs.leaving.leaving_of.Given as goal

abbrev pub invariant-loop-number : goal.invariant-loop-number
invariant-loop-number l = record {
  len : length l.rows.items ≡ l.places;
  rows : AreLeaving (take l.number l.steps) (map (λ row. row.items) l.rows.items);
}
