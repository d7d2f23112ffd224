use Rattle.std.proofs.Common.{◌≡◌, ℕ, None, length, get_or}
use Rattle.ux_parts.proofs.ordering.grown.Given as goal

abbrev pub invariant-loop : goal.invariant-loop
invariant-loop l = record {
  same : (k : ℕ) → get_or l.row.items k None ≡ get_or l.fn.row.items k None;
  len : length l.row.items ≡ l.counter;
}
