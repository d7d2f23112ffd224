use Rattle.ux_base.proofs.FirstsLemmas.{GrowsBy-next, GrowsBy-end}
use Rattle.ux_grf.specs.Needs.{calls_of_box, names_in}
use Rattle.ux_grf.proofs.calls.note_boxes.Goals as goal

pub loop-drawn-preserved : goal.loop-drawn-preserved
loop-drawn-preserved c =
    GrowsBy-next calls_of_box c.args.boxes.now c.loop-drawn.drawn-index c.drawn-item.result
    (names_in c.args.names.now) (names_in c.loop-drawn.names) (names_in c.note_box.new.names)
    c.loop-drawn-test.true c.drawn-item.is c.loop-drawn.invariant c.in_ok-note_box.ensures

pub returns : goal.returns
returns c =
    GrowsBy-end calls_of_box c.args.boxes.now c.loop-drawn.drawn-index
    (names_in c.args.names.now) (names_in c.loop-drawn.names) c.loop-drawn-test.false
    c.loop-drawn.invariant
