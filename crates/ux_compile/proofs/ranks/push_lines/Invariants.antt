use Rattle.std.proofs.Common.{◌≡◌, ◌++◌}
use Rattle.std.specs.List.{range_with_len, flat_map}
use Rattle.ux_compile.specs.Construct.{along_line}
use Rattle.ux_compile.specs.Ranks.{chain_rank_at, chain_free_at}
use Rattle.ux_compile.proofs.ranks.push_lines.Given as goal

abbrev pub invariant-loop-line : goal.invariant-loop-line
invariant-loop-line l = record {
  ranked : l.state_ranks.items ≡ l.fn.state_ranks.items
      ++ flat_map (along_line l.places
      (chain_rank_at l.admission.ranks.items l.admission.free.items l.graph l.places) l.place)
      (range_with_len 0 l.line);
  marked : l.state_frees.items ≡ l.fn.state_frees.items
      ++ flat_map (along_line l.places
      (chain_free_at l.admission.ranks.items l.admission.free.items l.graph l.places) l.place)
      (range_with_len 0 l.line);
}
