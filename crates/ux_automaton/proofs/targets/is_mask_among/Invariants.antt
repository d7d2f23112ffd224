use Rattle.std.proofs.Common.{◌≡◌, take}
use Rattle.std.specs.Prelude.{Contains}
use Rattle.ux_masks.specs.declared.mask.Mask.{Mask}
use Rattle.ux_net.specs.declared.label.Label.TheVariants as label
use Rattle.ux_net.specs.declared.state.Edge.{Edge}
use Rattle.ux_automaton.proofs.targets.is_mask_among.Given as goal

-- none of the edges so far has a mask
abbrev pub invariant-loop-edge : goal.invariant-loop-edge
invariant-loop-edge l = (edge : Edge) → Contains (take l.edge-index l.edges) edge → (mask : Mask) →
    edge.label ≡ label.Mask mask → ⊥
