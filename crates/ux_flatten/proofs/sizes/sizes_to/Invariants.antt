use Rattle.std.proofs.Common.{ℕ, [], ◌-◌, ◌<◌, ◌≤◌, get_or, length}
use Rattle.ux_flatten.specs.Making.{word_at, IsSizeRow}
use Rattle.ux_flatten.proofs.sizes.sizes_to.Given as goal

-- the rows so far, and the next one
abbrev pub invariant-loop-alloc : goal.invariant-loop-alloc
invariant-loop-alloc l = record {
  few : length l.rows.items ≤ l.depth;
  each : (d : ℕ) → d < length l.rows.items →
      IsSizeRow l.graphs (word_at l.words) d (get_or l.rows.items d []);
  next : IsSizeRow l.graphs (word_at l.words) (length l.rows.items) l.row.items;
}

abbrev pub decreases-loop-alloc : goal.decreases-loop-alloc
decreases-loop-alloc l = l.depth - length l.rows.items
