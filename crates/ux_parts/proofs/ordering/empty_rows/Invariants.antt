use Rattle.std.proofs.Common.{◌≡◌, ℕ, [], length, get_or}
use Rattle.ux_parts.proofs.ordering.empty_rows.Given as goal

abbrev pub invariant-loop : goal.invariant-loop
invariant-loop l = record {
  empty : (g : ℕ) → get_or l.rows.items g [] ≡ [];
  len : length l.rows.items ≡ l.counter;
}
