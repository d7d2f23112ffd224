use Rattle.std.proofs.Common.{◌≡◌, ℕ, [], length}
use Rattle.ux_digraph.specs.Paths.{row_of}
use Rattle.ux_admission.proofs.edges.empty_rows.Given as goal

abbrev pub invariant-loop : goal.invariant-loop
invariant-loop l = record {
  empty : (u : ℕ) → row_of l.rows.items u ≡ [];
  len : length l.rows.items ≡ l.counter;
}
