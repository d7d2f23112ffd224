use Rattle.std.proofs.Common.{take}
use Rattle.std.specs.Prelude.{Contains}
use Rattle.ux_net.specs.declared.state.Edge.{Edge}
use Rattle.ux_reading_match.specs.Usable.{IsBadLabel}
use Rattle.ux_reading_match.proofs.usability.has_bad.Given as goal

-- no edge so far is bad
abbrev pub invariant-loop-edge : goal.invariant-loop-edge
invariant-loop-edge l = (edge : Edge) → Contains (take l.edge-index l.edges) edge → IsBadLabel edge.label → ⊥
