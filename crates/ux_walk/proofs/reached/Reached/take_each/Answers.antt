use Rattle.std.proofs.Common.{get_or}
use Rattle.ux_walk.specs.Configurations.{IsPast}
use Rattle.ux_walk.proofs.Keeping.{keeps, spells_kept}
use Rattle.ux_walk.proofs.Stepping.{adds_first, adds_next, adds_all, item_at}
use Rattle.ux_walk.proofs.reached.Reached.take_each.Goals as goal

pub loop-end-init : goal.loop-end-init
loop-end-init c = λ v before sound spells.
    adds_first v (IsPast c.args.config.at c.args.here before) c.args.self.now
    c.args.ends.now sound

pub loop-end-preserved : goal.loop-end-preserved
loop-end-preserved c = λ v before sound spells.
    let now = c.loop-end.invariant v before sound spells in
    adds_next v (IsPast c.args.config.at c.args.here before) c.args.self.now c.loop-end.self
    c.take.new.self c.args.ends.now c.loop-end.end-index
    (get_or c.args.ends.now c.loop-end.end-index 0) c.loop-end-test.true
    (item_at c.args.ends.now c.loop-end.end-index 0 c.loop-end-test.true) now
    (c.in_ok-take.ensures v before now.sound
    (spells_kept c.args.self.now c.loop-end.self (keeps now) c.args.config v before spells))

pub returns : goal.returns
returns c = λ v before sound spells.
    adds_all v (IsPast c.args.config.at c.args.here before) c.args.self.now c.loop-end.self
    c.args.ends.now c.loop-end.end-index c.loop-end-test.false
    (c.loop-end.invariant v before sound spells)
