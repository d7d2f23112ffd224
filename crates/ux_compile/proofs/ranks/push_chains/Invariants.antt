use Rattle.std.proofs.Common.{◌≡◌, ◌++◌}
use Rattle.std.specs.List.{range_with_len, flat_map}
use Rattle.ux_compile.specs.Construct.{along_lines}
use Rattle.ux_compile.specs.Ranks.{chain_rank_at, chain_free_at}
use Rattle.ux_compile.proofs.ranks.push_chains.Given as goal

abbrev pub invariant-loop-place : goal.invariant-loop-place
invariant-loop-place l = record {
  ranked : l.state_ranks.items ≡ l.fn.state_ranks.items
      ++ flat_map (along_lines l.places
      (chain_rank_at l.admission.ranks.items l.admission.free.items l.graph l.places))
      (range_with_len 0 l.place);
  marked : l.state_frees.items ≡ l.fn.state_frees.items
      ++ flat_map (along_lines l.places
      (chain_free_at l.admission.ranks.items l.admission.free.items l.graph l.places))
      (range_with_len 0 l.place);
}
