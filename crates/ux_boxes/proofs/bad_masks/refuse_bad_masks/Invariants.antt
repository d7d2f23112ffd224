use Rattle.std.proofs.Common.{take}
use Rattle.ux_boxes.specs.Refusing.{drawn, AreMasked}
use Rattle.ux_boxes.proofs.bad_masks.refuse_bad_masks.Given as goal

-- the mask texts of the graphs so far are masks'
abbrev pub invariant-loop-name : goal.invariant-loop-name
invariant-loop-name l = AreMasked (drawn (take l.name-index l.graphs))
