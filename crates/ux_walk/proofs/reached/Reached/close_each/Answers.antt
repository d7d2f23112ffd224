use Rattle.std.proofs.Common.{[], get_or}
use Rattle.ux_walk.specs.Courses.{IsClosed}
use Rattle.ux_walk.proofs.Keeping.{keeps, spells_kept}
use Rattle.ux_walk.proofs.Stepping.{adds_first, adds_next, adds_all, item_at}
use Rattle.ux_walk.proofs.reached.Reached.close_each.Goals as goal

pub loop-closer-init : goal.loop-closer-init
loop-closer-init c = λ v before sound spells.
    adds_first v (IsClosed c.args.config.here [] c.args.config.at before) c.args.self.now
    c.args.closers.now sound

pub loop-closer-preserved : goal.loop-closer-preserved
loop-closer-preserved c = λ v before sound spells.
    let now = c.loop-closer.invariant v before sound spells in
    adds_next v (IsClosed c.args.config.here [] c.args.config.at before) c.args.self.now
    c.loop-closer.self c.close.new.self c.args.closers.now c.loop-closer.closer-index
    (get_or c.args.closers.now c.loop-closer.closer-index 0) c.loop-closer-test.true
    (item_at c.args.closers.now c.loop-closer.closer-index 0 c.loop-closer-test.true) now
    (c.in_ok-close.ensures v before now.sound
    (spells_kept c.args.self.now c.loop-closer.self (keeps now) c.args.config v before spells))

pub returns : goal.returns
returns c = λ v before sound spells.
    adds_all v (IsClosed c.args.config.here [] c.args.config.at before) c.args.self.now
    c.loop-closer.self c.args.closers.now c.loop-closer.closer-index c.loop-closer-test.false
    (c.loop-closer.invariant v before sound spells)
