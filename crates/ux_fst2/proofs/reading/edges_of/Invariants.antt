use Rattle.std.proofs.Common.{take}
use Rattle.std.specs.List.{AllZip}
use Rattle.ux_fst2.specs.Files.{IsEdgeBy}
use Rattle.ux_fst2.specs.Inner.{IsBorneBy}
use Rattle.ux_fst2.proofs.reading.edges_of.Given as goal

-- the edges so far
abbrev pub invariant-loop-edge : goal.invariant-loop-edge
invariant-loop-edge l =
    AllZip (IsEdgeBy (IsBorneBy l.tags)) (take l.edge-index l.edges) l.told.items
