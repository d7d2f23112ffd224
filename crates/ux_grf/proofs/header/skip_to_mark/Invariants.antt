use Rattle.std.proofs.Common.{◌≡◌}
use Rattle.ux_grf.specs.Header.{after_mark}
use Rattle.ux_grf.proofs.header.skip_to_mark.Given as goal

-- no line so far was the mark
abbrev pub invariant-loop-line : goal.invariant-loop-line
invariant-loop-line l =
    (goal.iterator-loop-line).can_next l.lines × (goal.iterator-loop-line).is_finite l.lines
    × (after_mark l.fn.lines ≡ after_mark l.lines)
