use Rattle.std.proofs.Common.{◌≡◌, ℕ, ◌↔◌, length, take}
use Rattle.std.specs.Prelude.{Contains}
use Rattle.ux_digraph.specs.Paths.{row_of}
use Rattle.ux_admission.proofs.edges.rows_of.Given as goal

abbrev pub invariant-loop-pair : goal.invariant-loop-pair
invariant-loop-pair l = record {
  len : length l.rows.items ≡ l.size;
  rows : (u v : ℕ) → Contains (row_of l.rows.items u) v ↔
      Contains (take l.pair-index l.pairs) (u, v);
}
