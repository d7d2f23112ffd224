use Rattle.std.proofs.Common.{take}
use Rattle.ux_tokens.specs.Numbers.{texts_in}
use Rattle.ux_boxes.proofs.SplitGraphs.{AreSplitTo}
use Rattle.ux_compile.proofs.grammar.split_graphs.Given as goal

-- the places of the graphs so far
abbrev pub invariant-loop-graph : goal.invariant-loop-graph
invariant-loop-graph l =
    AreSplitTo l.alphabet (texts_in l.names) (take l.graph-index l.graphs) l.places.items
