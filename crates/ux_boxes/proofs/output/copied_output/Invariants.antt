use Rattle.std.proofs.Common.{◌≡◌, take}
use Rattle.ux_boxes.proofs.output.copied_output.Given as goal

-- the pieces so far
abbrev pub invariant-loop-piece : goal.invariant-loop-piece
invariant-loop-piece l = l.copy.items ≡ take l.piece-index l.pieces
