use Rattle.std.proofs.Common.{take}
use Rattle.ux_boxes.specs.Splitting.{AreSplitLines}
use Rattle.ux_tokens.specs.Numbers.{texts_in}
use Rattle.ux_boxes.proofs.split.split_lines.Given as goal

-- the lines so far
abbrev pub invariant-loop-line : goal.invariant-loop-line
invariant-loop-line l = AreSplitLines l.alphabet (texts_in l.names) (take l.line-index l.lines)
    l.all.items
