use Rattle.std.proofs.Common.{◌≡◌, take}
use Rattle.std.specs.List.{flat_map}
use Rattle.ux_compile.specs.Construct.{edges_to}
use Rattle.ux_compile.proofs.construct.place_state.Given as goal

abbrev pub invariant-loop-target : goal.invariant-loop-target
invariant-loop-target l =
    l.edges.items ≡ flat_map (edges_to l.places) (take l.target-index l.targets)
