use Rattle.ux_state_places.specs.Arriving.{way_into}
use Rattle.ux_state_places.proofs.ArrivingLemmas.{added_one, put_behind}
use Rattle.ux_state_places.proofs.arrivals.add.Goals as goal

pub returns : goal.returns
returns c = record {
  first = put_behind c.args.arrivals.now.keys c.insert.new.set.keys
      (way_into c.args.state c.args.kind) c.in_ok-insert.ensures;
  added = added_one c.args.state c.args.kind c.args.arrivals.now.keys c.insert.new.set.keys
      c.requires c.in_ok-insert.ensures;
}
