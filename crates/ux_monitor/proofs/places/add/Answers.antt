use Rattle.ux_subsets.proofs.InsertingLemmas.{Contains-insert}
use Rattle.ux_monitor.proofs.places.add.Goals as goal

pub returns-clause-exact : goal.returns-clause-exact
returns-clause-exact c = Contains-insert _ _ c.args.place c.in_ok-is_new.ensures.updates
