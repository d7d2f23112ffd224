use Rattle.std.proofs.Common.{◌≡◌, length, map}
use Rattle.ux_grf.specs.BoxLine.{said_by}
use Rattle.ux_grf.specs.File.{AreMade}
use Rattle.ux_grf.proofs.boxes.make_boxes.Given as goal

-- the boxes so far are made
abbrev pub invariant-loop-node : goal.invariant-loop-node
invariant-loop-node l = record {
  len : length l.made.items ≡ l.node;
  made : AreMade l.kind (map said_by l.boxes) l.reached l.made.items l.node;
}
