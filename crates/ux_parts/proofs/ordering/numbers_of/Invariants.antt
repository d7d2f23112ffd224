use Rattle.std.proofs.Common.{◌≡◌, length}
use Rattle.ux_parts.specs.Order.{AreNumbers}
use Rattle.ux_parts.proofs.ordering.numbers_of.Given as goal

abbrev pub invariant-loop-place : goal.invariant-loop-place
invariant-loop-place l = record {
  len : length l.rows.items ≡ l.count;
  numbers : AreNumbers l.order l.place l.rows.items;
}
