use Rattle.ux_chart.proofs.SeenLemmas.{moved_more}
use Rattle.ux_chart.proofs.seen.move_few.Goals as goal

pub loop-item-preserved : goal.loop-item-preserved
loop-item-preserved g c =
    moved_more _ c.requires.exact c.args.few.now c.loop-item.many.keys c.insert.new.self.keys
    c.loop-item.item-index c.item-item.result c.requires.distinct c.loop-item-test.true
    c.item-item.is c.loop-item.invariant c.in_ok-insert.ensures.keys
