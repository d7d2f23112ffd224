use Rattle.std.proofs.Common.{take}
use Rattle.ux_marks.specs.Meeting.{Adds, IsRuleIn}
use Rattle.ux_marks.proofs.rules.push_from.Given as goal

-- the rules along the edges so far were added
abbrev pub invariant-loop-edge : goal.invariant-loop-edge
invariant-loop-edge l =
    Adds (IsRuleIn l.count l.state (take l.edge-index l.edges)) l.fn.rules.items l.rules.items
