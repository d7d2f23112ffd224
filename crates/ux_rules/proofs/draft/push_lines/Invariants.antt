use Rattle.std.proofs.Common.{take}
use Rattle.ux_grf.specs.WellFormed.{box_of_graph}
use Rattle.ux_rules.proofs.BoxLemmas.{IsAtLine}
use Rattle.ux_rules.proofs.draft.push_lines.Given as goal

abbrev pub invariant-loop-line : goal.invariant-loop-line
invariant-loop-line l = IsAtLine l.graph l.node l.fn.draft l.draft
    (take l.line-index (box_of_graph l.graph l.node).lines)
