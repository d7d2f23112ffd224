use Rattle.std.proofs.Common.{take}
use Rattle.std.specs.List.{flat_map}
use Rattle.ux_base.specs.Distinct.{GrowsBy}
use Rattle.ux_grf.specs.Needs.{calls_of_line, names_in}
use Rattle.ux_grf.proofs.calls.note_box.Given as goal

-- the names of the lines so far are noted
abbrev pub invariant-loop-line : goal.invariant-loop-line
invariant-loop-line l =
    GrowsBy (flat_map calls_of_line (take l.line-index l.line-items)) (names_in l.fn.names)
    (names_in l.names)
