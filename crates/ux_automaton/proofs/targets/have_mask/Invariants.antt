use Rattle.std.proofs.Common.{◌≡◌, take}
use Rattle.std.specs.Prelude.{Contains}
use Rattle.ux_closure.specs.declared.stand.Stand.{Stand}
use Rattle.ux_masks.specs.declared.mask.Mask.{Mask}
use Rattle.ux_net.specs.declared.label.Label.TheVariants as label
use Rattle.ux_net.specs.declared.state.Edge.{Edge}
use Rattle.ux_automaton.specs.Targets.{IsEdgeOf}
use Rattle.ux_automaton.proofs.targets.have_mask.Given as goal

-- no edge of the stands so far has a mask
abbrev pub invariant-loop-stand : goal.invariant-loop-stand
invariant-loop-stand l = (stand : Stand) → Contains (take l.stand-index l.stands) stand →
    (edge : Edge) (mask : Mask) → IsEdgeOf l.net stand.here edge → edge.label ≡ label.Mask mask → ⊥
