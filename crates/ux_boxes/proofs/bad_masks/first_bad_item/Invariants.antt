use Rattle.std.proofs.Common.{take}
use Rattle.std.specs.List.{flat_map}
use Rattle.ux_boxes.specs.MaskTexts.{mask_texts_of_item, AreMasks}
use Rattle.ux_boxes.proofs.bad_masks.first_bad_item.Given as goal

-- the mask texts of the items so far are masks'
abbrev pub invariant-loop-item : goal.invariant-loop-item
invariant-loop-item l = AreMasks (flat_map mask_texts_of_item (take l.item-index l.line))
