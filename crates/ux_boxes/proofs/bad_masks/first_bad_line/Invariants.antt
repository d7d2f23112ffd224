use Rattle.std.proofs.Common.{take}
use Rattle.std.specs.List.{flat_map}
use Rattle.ux_boxes.specs.MaskTexts.{mask_texts_of_line, AreMasks}
use Rattle.ux_boxes.proofs.bad_masks.first_bad_line.Given as goal

-- the mask texts of the lines so far are masks'
abbrev pub invariant-loop-line : goal.invariant-loop-line
invariant-loop-line l = AreMasks (flat_map mask_texts_of_line (take l.line-index l.lines))
