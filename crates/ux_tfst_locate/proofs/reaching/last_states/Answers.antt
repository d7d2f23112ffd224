use Rattle.ux_tfst_locate.specs.Reaching.{IsLast}
use Rattle.ux_tfst_locate.proofs.ReachingLemmas.{marked_all}
use Rattle.ux_tfst_locate.proofs.reaching.last_states.Goals as goal

pub returns-clause-marks : goal.returns-clause-marks
returns-clause-marks c =
    marked_all IsLast c.args.places.now c.loop-place.marks.items c.loop-place.place-index
    c.loop-place-test.false c.loop-place.invariant
