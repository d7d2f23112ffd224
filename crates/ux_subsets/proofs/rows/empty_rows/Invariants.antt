use Rattle.std.proofs.Common.{◌≡◌, ℕ, length, []}
use Rattle.ux_subsets.specs.Rows.{row_at}
use Rattle.ux_subsets.proofs.rows.empty_rows.Given as goal

abbrev pub invariant-loop-place : goal.invariant-loop-place
invariant-loop-place g l = record {
  len : length l.rows.items ≡ l.place;
  empty : (x : ℕ) → row_at l.rows.items x ≡ [];
}
