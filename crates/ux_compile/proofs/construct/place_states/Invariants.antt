use Rattle.std.proofs.Common.{◌≡◌}
use Rattle.std.specs.List.{range_with_len, flat_map}
use Rattle.ux_compile.specs.Construct.{at_place, place_state}
use Rattle.ux_compile.proofs.construct.place_states.Given as goal

abbrev pub invariant-loop-place : goal.invariant-loop-place
invariant-loop-place l =
    l.states.items ≡ flat_map (at_place l.places (place_state l.places)) (range_with_len 0 l.place)
