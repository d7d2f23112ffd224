use Rattle.std.proofs.Common.{◌≡◌, ◌++◌}
use Rattle.std.specs.List.{range_with_len, flat_map}
use Rattle.ux_admission.specs.Admission.{place_rank, is_place_free}
use Rattle.ux_compile.specs.Construct.{at_place}
use Rattle.ux_compile.specs.Ranks.{above}
use Rattle.ux_compile.proofs.ranks.push_places.Given as goal

abbrev pub invariant-loop-place : goal.invariant-loop-place
invariant-loop-place l = record {
  ranked : l.state_ranks.items ≡ l.fn.state_ranks.items
      ++ flat_map (at_place l.places (λ a. above (place_rank l.admission.ranks.items l.graph a)))
      (range_with_len 0 l.place);
  marked : l.state_frees.items ≡ l.fn.state_frees.items
      ++ flat_map (at_place l.places (is_place_free l.admission.free.items l.graph))
      (range_with_len 0 l.place);
}
