use Rattle.std.proofs.Common.{take}
use Rattle.std.specs.List.{flat_map}
use Rattle.ux_base.specs.Distinct.{GrowsBy}
use Rattle.ux_grf.specs.Needs.{calls_of_box, names_in}
use Rattle.ux_grf.proofs.calls.note_boxes.Given as goal

-- the names of the boxes so far are noted
abbrev pub invariant-loop-drawn : goal.invariant-loop-drawn
invariant-loop-drawn l =
    GrowsBy (flat_map calls_of_box (take l.drawn-index l.boxes)) (names_in l.fn.names)
    (names_in l.names)
