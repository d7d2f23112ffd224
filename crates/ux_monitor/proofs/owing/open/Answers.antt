use Rattle.ux_monitor.proofs.OwingLemmas.{opened_kept}
use Rattle.ux_monitor.proofs.owing.open.Goals as goal

pub returns-clause-opened : goal.returns-clause-opened
returns-clause-opened c =
    opened_kept c.args.steps.now c.args.if_places.now c.args.then_places.now c.args.owed.now.keys c.keep.new.owed.keys c.in_ok-one.one
    c.in_ok-one.ensures c.in_ok-keep.ensures

pub returns-clause-still : goal.returns-clause-still
returns-clause-still c = c.in_ok-keep.ensures.still
