use Rattle.ux_boxes.proofs.MaskTextsLemmas.{AreMasksBefore}
use Rattle.ux_boxes.proofs.bad_masks.first_bad_box.Given as goal

-- the mask texts of the boxes so far are masks'
abbrev pub invariant-loop-node : goal.invariant-loop-node
invariant-loop-node l = AreMasksBefore l.boxes l.node
