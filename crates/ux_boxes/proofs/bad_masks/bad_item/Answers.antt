use Rattle.std.proofs.Common.{sym, subst}
use Rattle.std.proofs.lemmas.Result.{IfOk-weaker}
use Rattle.std.specs.Prelude.{IfOk}
use Rattle.ux_grf.specs.declared.item.Item.{Item}
use Rattle.ux_boxes.specs.BadMasks.{Checks}
use Rattle.ux_boxes.specs.MaskTexts.{mask_texts_of_item}
use Rattle.ux_boxes.proofs.MaskTextsLemmas.{one_text}
use Rattle.ux_boxes.proofs.bad_masks.bad_item.Goals as goal

pub returns-in-Mask : goal.returns-in-Mask
returns-in-Mask c =
    subst (λ (item : Item). IfOk c.bad_place.result (Checks (mask_texts_of_item item)))
    (sym c.in-Mask.is)
    (IfOk-weaker c.bad_place.result _ _ (λ place told.
    one_text c.as_str.result.now c.in-Mask.text c.as_str.ensures place told) c.bad_place.ensures)
