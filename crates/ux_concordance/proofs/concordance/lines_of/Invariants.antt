use Rattle.std.proofs.Common.{take}
use Rattle.ux_concordance.specs.Lent.{AreLinesOf}
use Rattle.ux_concordance.proofs.concordance.lines_of.Given as goal

-- the lines of the hits so far
abbrev pub invariant-loop-hit : goal.invariant-loop-hit
invariant-loop-hit l = AreLinesOf l.text l.left l.right (take l.hit-index l.hits) l.lines.items
