use Rattle.std.proofs.Common.{arith, List, subst}
use Rattle.std.specs.List.{flat_map}
use Rattle.ux_grf.specs.declared.item.Item.{Item}
use Rattle.ux_boxes.specs.MaskTexts.{mask_texts_of_line, AreMasks, IsFirstBad}
use Rattle.ux_boxes.proofs.MaskTextsLemmas.{boxes_more, boxes_all, box_bad}
use Rattle.ux_boxes.proofs.MissingLemmas.{told_some, told_none}
use Rattle.ux_boxes.proofs.bad_masks.first_bad_box.Goals as goal

pub loop-node-init : goal.loop-node-init
loop-node-init c m low = absurd (omega (arith, low))

pub returns-in-Some : goal.returns-in-Some
returns-in-Some c =
    let texts = flat_map mask_texts_of_line c.as_slice.result.now in
    box_bad c.args.boxes.now c.loop-node.node c.index-boxes-node.result c.in-Some.place
    c.loop-node-test.true c.index-boxes-node.is c.loop-node.invariant
    (subst (λ (lines : List (List Item)).
    IsFirstBad (flat_map mask_texts_of_line lines) c.in-Some.place) c.as_slice.ensures
    (told_some (AreMasks texts) (IsFirstBad texts) c.in_ok-place.field-0 c.in-Some.place
    c.in-Some.is c.in_ok-place.ensures))

pub loop-node-preserved : goal.loop-node-preserved
loop-node-preserved c =
    let texts = flat_map mask_texts_of_line c.as_slice.result.now in
    boxes_more c.args.boxes.now c.loop-node.node c.index-boxes-node.result
    c.loop-node-test.true c.index-boxes-node.is c.loop-node.invariant
    (subst (λ (lines : List (List Item)). AreMasks (flat_map mask_texts_of_line lines))
    c.as_slice.ensures
    (told_none (AreMasks texts) (IsFirstBad texts) c.in_ok-place.field-0 c.in_default.is
    c.in_ok-place.ensures))

pub returns : goal.returns
returns c =
    boxes_all c.args.boxes.now c.loop-node.node c.loop-node-test.false c.loop-node.invariant
