use Rattle.std.proofs.Common.{take}
use Rattle.ux_base.specs.Distinct.{GrowsBy}
use Rattle.ux_grf.specs.Needs.{calls_of_line, names_in}
use Rattle.ux_grf.proofs.calls.note_line.Given as goal

-- the names of the items so far are noted
abbrev pub invariant-loop-item : goal.invariant-loop-item
invariant-loop-item l =
    GrowsBy (calls_of_line (take l.item-index l.line)) (names_in l.fn.names) (names_in l.names)
