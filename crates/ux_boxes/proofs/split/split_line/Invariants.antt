use Rattle.std.proofs.Common.{take}
use Rattle.ux_boxes.specs.Boxes.{IsSplitLine}
use Rattle.ux_tokens.specs.Numbers.{texts_in}
use Rattle.ux_boxes.proofs.split.split_line.Given as goal

-- the items so far
abbrev pub invariant-loop-item : goal.invariant-loop-item
invariant-loop-item l = IsSplitLine l.alphabet (texts_in l.names) (take l.item-index l.line)
    l.labels.items
