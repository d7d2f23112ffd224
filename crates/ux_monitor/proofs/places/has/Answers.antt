use Rattle.ux_monitor.proofs.SetsLemmas.{has_exactly}
use Rattle.ux_monitor.proofs.places.has.Goals as goal

pub returns : goal.returns
returns c = has_exactly c.args.found.now c.args.place c.contains.result c.contains.ensures
