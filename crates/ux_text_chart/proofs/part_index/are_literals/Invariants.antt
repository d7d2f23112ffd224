use Rattle.std.proofs.Common.{take}
use Rattle.std.specs.Prelude.{Contains}
use Rattle.ux_net.specs.declared.state.Edge.{Edge}
use Rattle.ux_walk.specs.Literals.{IsLiteral}
use Rattle.ux_text_chart.proofs.part_index.are_literals.Given as goal

-- the edges so far are literals
abbrev pub invariant-loop-edge : goal.invariant-loop-edge
invariant-loop-edge l = (edge : Edge) → Contains (take l.edge-index l.edges) edge →
    IsLiteral edge.label
