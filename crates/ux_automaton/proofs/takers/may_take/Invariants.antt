use Rattle.std.proofs.Common.{take}
use Rattle.std.specs.Prelude.{Contains}
use Rattle.ux_closure.specs.declared.stand.Stand.{Stand}
use Rattle.ux_net.specs.declared.state.Edge.{Edge}
use Rattle.ux_automaton.specs.Targets.{IsEdgeOf, MayTakeToken}
use Rattle.ux_automaton.proofs.takers.may_take.Given as goal

-- no edge of the stands so far may take a token
abbrev pub invariant-loop-stand : goal.invariant-loop-stand
invariant-loop-stand l = (stand : Stand) → Contains (take l.stand-index l.stands) stand →
    (edge : Edge) → IsEdgeOf l.net stand.here edge → MayTakeToken edge.label → ⊥
