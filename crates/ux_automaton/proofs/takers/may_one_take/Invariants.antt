use Rattle.std.proofs.Common.{take}
use Rattle.std.specs.Prelude.{Contains}
use Rattle.ux_net.specs.declared.state.Edge.{Edge}
use Rattle.ux_automaton.specs.Targets.{MayTakeToken}
use Rattle.ux_automaton.proofs.takers.may_one_take.Given as goal

-- none of the edges so far may take a token
abbrev pub invariant-loop-edge : goal.invariant-loop-edge
invariant-loop-edge l = (edge : Edge) → Contains (take l.edge-index l.edges) edge →
    MayTakeToken edge.label → ⊥
