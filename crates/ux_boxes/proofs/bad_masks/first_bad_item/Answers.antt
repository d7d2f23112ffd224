use Rattle.std.proofs.lemmas.List.Elements.{All-nil}
use Rattle.ux_boxes.specs.MaskTexts.{mask_texts_of_item, IsMask, AreMasks, IsFirstBad}
use Rattle.ux_boxes.proofs.MaskTextsLemmas.{masks_more, masks_all, bad_more}
use Rattle.ux_boxes.proofs.MissingLemmas.{told_some, told_none}
use Rattle.ux_boxes.proofs.bad_masks.first_bad_item.Goals as goal

pub loop-item-init : goal.loop-item-init
loop-item-init c = All-nil IsMask

pub returns-in-Some : goal.returns-in-Some
returns-in-Some c =
    bad_more mask_texts_of_item c.args.line.now c.loop-item.item-index c.item-item.result
    c.in-Some.place c.loop-item-test.true c.item-item.is c.loop-item.invariant
    (told_some (AreMasks (mask_texts_of_item c.item-item.result))
    (IsFirstBad (mask_texts_of_item c.item-item.result)) c.in_ok-place.field-0 c.in-Some.place
    c.in-Some.is c.in_ok-place.ensures)

pub loop-item-preserved : goal.loop-item-preserved
loop-item-preserved c =
    masks_more mask_texts_of_item c.args.line.now c.loop-item.item-index c.item-item.result
    c.loop-item-test.true c.item-item.is c.loop-item.invariant
    (told_none (AreMasks (mask_texts_of_item c.item-item.result))
    (IsFirstBad (mask_texts_of_item c.item-item.result)) c.in_ok-place.field-0
    c.in_default.is c.in_ok-place.ensures)

pub returns : goal.returns
returns c =
    masks_all mask_texts_of_item c.args.line.now c.loop-item.item-index c.loop-item-test.false
    c.loop-item.invariant
