use Rattle.ux_base.proofs.FirstsLemmas.{GrowsBy-next, GrowsBy-end}
use Rattle.ux_grf.specs.Needs.{calls_of_item, names_in}
use Rattle.ux_grf.proofs.calls.note_line.Goals as goal

pub loop-item-preserved : goal.loop-item-preserved
loop-item-preserved c =
    GrowsBy-next calls_of_item c.args.line.now c.loop-item.item-index c.item-item.result
    (names_in c.args.names.now) (names_in c.loop-item.names) (names_in c.note_item.new.names)
    c.loop-item-test.true c.item-item.is c.loop-item.invariant c.in_ok-note_item.ensures

pub returns : goal.returns
returns c =
    GrowsBy-end calls_of_item c.args.line.now c.loop-item.item-index (names_in c.args.names.now)
    (names_in c.loop-item.names) c.loop-item-test.false c.loop-item.invariant
