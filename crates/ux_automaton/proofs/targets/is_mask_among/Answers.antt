use Rattle.std.proofs.Common.{◌≡◌}
use Rattle.ux_masks.specs.declared.mask.Mask.{Mask}
use Rattle.ux_net.specs.declared.label.Label.TheVariants as label
use Rattle.ux_net.specs.declared.state.Edge.{Edge}
use Rattle.ux_automaton.proofs.AddingLemmas.{each_all, each_next}
use Rattle.ux_automaton.proofs.targets.is_mask_among.Goals as goal

pub loop-edge-preserved : goal.loop-edge-preserved
loop-edge-preserved c = each_next c.args.edges.now c.loop-edge.edge-index
    (λ (edge : Edge). (mask : Mask) → edge.label ≡ label.Mask mask → ⊥) c.edge-item.result
    c.loop-edge-test.true c.edge-item.is c.loop-edge.invariant (c.is_mask.ensures c.if-is_mask.false)

pub returns : goal.returns
returns c = λ none edge mask inside is. each_all c.args.edges.now c.loop-edge.edge-index
    (λ (e : Edge). (m : Mask) → e.label ≡ label.Mask m → ⊥) c.loop-edge-test.false
    c.loop-edge.invariant edge inside mask is
