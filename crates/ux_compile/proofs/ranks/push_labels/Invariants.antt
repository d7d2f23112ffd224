use Rattle.std.proofs.Common.{◌≡◌, ◌+◌, ◌++◌, drop, map}
use Rattle.std.specs.List.{range_with_len}
use Rattle.ux_compile.specs.Ranks.{silent_len, rest_rank, rest_free}
use Rattle.ux_compile.proofs.ranks.push_labels.Given as goal

abbrev pub invariant-loop-k : goal.invariant-loop-k
invariant-loop-k l = record {
  silent : l.front ≡ silent_len (drop (l.k + 1) l.labels);
  ranked : l.state_ranks.items ≡ l.fn.state_ranks.items
      ++ map (λ k. rest_rank l.rank (drop (k + 1) l.labels)) (range_with_len 0 l.k);
  marked : l.state_frees.items ≡ l.fn.state_frees.items
      ++ map (λ k. rest_free l.free (drop (k + 1) l.labels)) (range_with_len 0 l.k);
}
