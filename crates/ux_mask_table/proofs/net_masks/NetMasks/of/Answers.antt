use Rattle.std.proofs.Common.{arith, List, Bor, map, subst}
use Rattle.ux_base.specs.Distinct.{GrowsBy}
use Rattle.ux_base.proofs.FirstsLemmas.{GrowsBy-end, GrowsBy-from_none}
use Rattle.ux_masks.specs.declared.mask.Mask.{Mask}
use Rattle.ux_net.specs.Masks.{masks_of, masks_of_graph, masks_in}
use Rattle.ux_mask_table.proofs.NetMasksLemmas.{graph_more}
use Rattle.ux_mask_table.proofs.net_masks.NetMasks.of.Goals as goal

pub loop-before-preserved : goal.loop-before-preserved
loop-before-preserved c =
    let count = c.graphs-before-end.ensures.count in
    let test = c.loop-before-test.true in
    graph_more c.args.net.now c.loop-before.before (masks_in c.new-set.result)
    (masks_in c.loop-before.set) (masks_in c.note_graph.new.masks) (omega (arith, test, count))
    c.loop-before.invariant c.in_ok-note_graph.ensures

pub returns : goal.returns
returns c =
    let count = c.graphs-before-end.ensures.count in
    let test = c.loop-before-test.false in
    let all = GrowsBy-end masks_of_graph c.args.net.now c.loop-before.before
    (masks_in c.new-set.result) (masks_in c.loop-before.set) (omega (arith, test, count))
    c.loop-before.invariant in
    GrowsBy-from_none (masks_of c.args.net.now) (masks_in c.loop-before.set)
    (subst (λ (keys : List (Bor Mask)). GrowsBy (masks_of c.args.net.now)
    (map (λ (mask : Bor Mask). mask.now) keys) (masks_in c.loop-before.set))
    c.new-set.ensures.empty all)
