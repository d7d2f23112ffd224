use Rattle.std.proofs.Common.{List, subst}
use Rattle.std.specs.List.{flat_map}
use Rattle.ux_base.specs.Distinct.{GrowsBy}
use Rattle.ux_base.proofs.FirstsLemmas.{GrowsBy-next, GrowsBy-end}
use Rattle.ux_net.specs.declared.state.State.{State}
use Rattle.ux_net.specs.Masks.{masks_of_state, masks_in}
use Rattle.ux_net.proofs.masks.note_graph.Goals as goal

pub loop-state-preserved : goal.loop-state-preserved
loop-state-preserved c =
    GrowsBy-next masks_of_state c.as_slice-state-items.result.now c.loop-state.state-index
    c.state-item.result (masks_in c.args.masks.now) (masks_in c.loop-state.masks)
    (masks_in c.note_state.new.masks) c.loop-state-test.true c.state-item.is
    c.loop-state.invariant c.in_ok-note_state.ensures

pub returns : goal.returns
returns c =
    subst (λ (states : List State). GrowsBy (flat_map masks_of_state states)
    (masks_in c.args.masks.now) (masks_in c.loop-state.masks)) c.as_slice-state-items.ensures
    (GrowsBy-end masks_of_state c.as_slice-state-items.result.now c.loop-state.state-index
    (masks_in c.args.masks.now) (masks_in c.loop-state.masks) c.loop-state-test.false
    c.loop-state.invariant)
