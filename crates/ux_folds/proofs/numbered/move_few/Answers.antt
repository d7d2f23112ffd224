use Rattle.ux_folds.proofs.NumberedLemmas.{moved_more}
use Rattle.ux_folds.proofs.numbered.move_few.Goals as goal

pub loop-value-preserved : goal.loop-value-preserved
loop-value-preserved g c =
    moved_more g.T.PartialEq.eq g.met.T.Eq.laws c.args.few.now c.loop-value.many.keys
    c.insert.new.self.keys c.loop-value.value-index c.value-item.result c.requires.distinct
    c.loop-value-test.true c.value-item.is c.loop-value.invariant c.in_ok-insert.ensures.keys
