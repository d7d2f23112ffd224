use Rattle.std.proofs.Common.{◌≡◌, ◌++◌}
use Rattle.std.specs.List.{range_with_len, flat_map}
use Rattle.ux_compile.specs.Construct.{along_lines, chain_state}
use Rattle.ux_compile.proofs.construct.chain_states.Given as goal

abbrev pub invariant-loop-place : goal.invariant-loop-place
invariant-loop-place l =
    l.states.items
    ≡ l.fn.states.items
    ++ flat_map (along_lines l.places (chain_state l.places)) (range_with_len 0 l.place)
