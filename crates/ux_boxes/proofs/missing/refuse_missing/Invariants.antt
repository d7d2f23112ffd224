use Rattle.ux_boxes.specs.Refusing.{drawn}
use Rattle.ux_boxes.proofs.MissingLemmas.{AreCalledTo}
use Rattle.ux_boxes.proofs.missing.refuse_missing.Given as goal

-- the calls of the graphs so far are of graphs that are there
abbrev pub invariant-loop-graph : goal.invariant-loop-graph
invariant-loop-graph l = AreCalledTo (drawn l.graphs) l.graph-index
