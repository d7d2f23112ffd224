use Rattle.std.proofs.Common.{List, subst}
use Rattle.std.proofs.lemmas.List.Elements.{All-nil}
use Rattle.ux_grf.specs.declared.item.Item.{Item}
use Rattle.ux_boxes.specs.MaskTexts.{mask_texts_of_line, IsMask, AreMasks, IsFirstBad}
use Rattle.ux_boxes.proofs.MaskTextsLemmas.{masks_more, masks_all, bad_more}
use Rattle.ux_boxes.proofs.MissingLemmas.{told_some, told_none}
use Rattle.ux_boxes.proofs.bad_masks.first_bad_line.Goals as goal

pub loop-line-init : goal.loop-line-init
loop-line-init c = All-nil IsMask

pub returns-in-Some : goal.returns-in-Some
returns-in-Some c =
    let texts = mask_texts_of_line c.as_slice.result.now in
    bad_more mask_texts_of_line c.args.lines.now c.loop-line.line-index c.line-item.result
    c.in-Some.place c.loop-line-test.true c.line-item.is c.loop-line.invariant
    (subst (λ (line : List Item). IsFirstBad (mask_texts_of_line line) c.in-Some.place)
    c.as_slice.ensures
    (told_some (AreMasks texts) (IsFirstBad texts) c.in_ok-place.field-0 c.in-Some.place
    c.in-Some.is c.in_ok-place.ensures))

pub loop-line-preserved : goal.loop-line-preserved
loop-line-preserved c =
    let texts = mask_texts_of_line c.as_slice.result.now in
    masks_more mask_texts_of_line c.args.lines.now c.loop-line.line-index c.line-item.result
    c.loop-line-test.true c.line-item.is c.loop-line.invariant
    (subst (λ (line : List Item). AreMasks (mask_texts_of_line line)) c.as_slice.ensures
    (told_none (AreMasks texts) (IsFirstBad texts) c.in_ok-place.field-0 c.in_default.is
    c.in_ok-place.ensures))

pub returns : goal.returns
returns c =
    masks_all mask_texts_of_line c.args.lines.now c.loop-line.line-index c.loop-line-test.false
    c.loop-line.invariant
