use Rattle.std.proofs.Common.{◌≡◌, ℕ, ◌≤◌, length, map, drop, get_or}
use Rattle.ux_grf.specs.BoxLine.{said_by}
use Rattle.ux_grf.specs.Boxes.{AreTexts, AreGood}
use Rattle.ux_grf.proofs.read.stamped_boxes.Given as goal

-- the boxes so far are those of the lines so far, and the stamps so far are at most the node
abbrev pub invariant-loop-node : goal.invariant-loop-node
invariant-loop-node l =
    (l.lines ≡ drop l.node l.fn.lines)
    × AreTexts l.node l.fn.lines (map said_by l.boxes.items)
    × AreGood l.count l.fn.lines l.node
    × (length l.stamps.items ≡ l.count)
    × ((u : ℕ) → get_or l.stamps.items u 0 ≤ l.node)
