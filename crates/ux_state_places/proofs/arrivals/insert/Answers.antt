use Rattle.ux_state_places.proofs.ArrivingLemmas.{one_more}
use Rattle.ux_state_places.proofs.arrivals.insert.Goals as goal

pub returns : goal.returns
returns g c = one_more _ c.requires c.args.set.now.keys c.insert.new.self.keys c.args.item
    c.in_ok-insert.ensures.keys
