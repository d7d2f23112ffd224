use Rattle.std.proofs.Common.{take}
use Rattle.std.specs.List.{AllZip}
use Rattle.ux_fst2.specs.Files.{IsGraphBy}
use Rattle.ux_fst2.specs.Inner.{IsBorneBy}
use Rattle.ux_fst2.proofs.reading.graphs_of.Given as goal

-- the graphs so far
abbrev pub invariant-loop-graph : goal.invariant-loop-graph
invariant-loop-graph l =
    AllZip (IsGraphBy (IsBorneBy l.tags)) (take l.graph-index l.graphs) l.told.items
