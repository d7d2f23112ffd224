use Rattle.std.proofs.Common.{arith}
use Rattle.ux_base.proofs.FirstsLemmas.{GrowsBy-end}
use Rattle.ux_net.specs.Masks.{masks_of_state, masks_in}
use Rattle.ux_net.specs.Nets.{states_of}
use Rattle.ux_mask_table.proofs.NetMasksLemmas.{state_more}
use Rattle.ux_mask_table.proofs.net_masks.note_graph.Goals as goal

pub loop-state-preserved : goal.loop-state-preserved
loop-state-preserved c =
    let count = c.states-state-end.ensures.count in
    let test = c.loop-state-test.true in
    state_more (states_of c.args.net.now c.args.graph) c.loop-state.state c.edges.result.now
    (masks_in c.args.masks.now) (masks_in c.loop-state.masks) (masks_in c.note_edges.new.masks)
    (omega (arith, test, count)) c.edges.ensures c.loop-state.invariant c.in_ok-note_edges.ensures

pub returns : goal.returns
returns c =
    let count = c.states-state-end.ensures.count in
    let test = c.loop-state-test.false in
    GrowsBy-end masks_of_state (states_of c.args.net.now c.args.graph) c.loop-state.state
    (masks_in c.args.masks.now) (masks_in c.loop-state.masks) (omega (arith, test, count))
    c.loop-state.invariant
