use Rattle.ux_state_places.proofs.RawLemmas.{led_to}
use Rattle.ux_state_places.proofs.raw.edge_targets.Goals as goal

pub returns : goal.returns
returns c =
    led_to c.args.ways.now.arrivals.keys c.args.state.now c.as_slice-2.result.now
    c.in_ok-targets.targets.items c.push_end.new.targets.items c.push_edges.new.targets.items
    c.in_ok-targets.ensures.items c.as_slice-2.ensures c.in_ok-push_end.ensures
    c.in_ok-push_edges.ensures
