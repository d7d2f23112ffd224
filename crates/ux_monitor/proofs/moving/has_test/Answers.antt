use Rattle.ux_monitor.proofs.SetsLemmas.{has_exactly}
use Rattle.ux_monitor.proofs.moving.has_test.Goals as goal

pub returns : goal.returns
returns c = has_exactly c.args.passed.now c.args.test c.contains.result c.contains.ensures
