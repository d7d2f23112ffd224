use Rattle.std.proofs.Common.{◌≡◌, take}
use Rattle.ux_boxes.proofs.rows.copied.Given as goal

abbrev pub invariant-loop-item : goal.invariant-loop-item
invariant-loop-item g l = l.row.items ≡ take l.item-index l.items
