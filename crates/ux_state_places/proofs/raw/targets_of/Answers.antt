use Rattle.std.proofs.lemmas.Result.{IfOk-weaker}
use Rattle.ux_state_places.proofs.RawLemmas.{have_edges, hub_targets, way_inside}
use Rattle.ux_state_places.proofs.raw.targets_of.Goals as goal

pub edge_targets-requires-clause-edges : goal.edge_targets-requires-clause-edges
edge_targets-requires-clause-edges c =
    let states = c.args.states.now in
    let kinds = c.args.ways.now.kinds.items in
    let arrivals = c.args.ways.now.arrivals.keys in
    have_edges states kinds arrivals c.args.arrival.state c.index-states-arrival.result
    c.requires.are (way_inside states kinds arrivals c.args.arrival c.requires.are c.requires.there)
    c.index-states-arrival.is

pub hub_target-requires-clause-there : goal.hub_target-requires-clause-there
hub_target-requires-clause-there c =
    c.requires.are.hubs c.args.arrival.state
    (way_inside c.args.states.now c.args.ways.now.kinds.items c.args.ways.now.arrivals.keys
    c.args.arrival c.requires.are c.requires.there)

pub returns-then-is_hub : goal.returns-then-is_hub
returns-then-is_hub c =
    let states = c.args.states.now in
    let kinds = c.args.ways.now.kinds.items in
    let arrivals = c.args.ways.now.arrivals.keys in
    let inside = way_inside states kinds arrivals c.args.arrival c.requires.are c.requires.there in
    IfOk-weaker c.edge_targets.result _ _ (λ targets h q.
    let same = hub_targets states kinds arrivals c.args.arrival c.index-states-arrival.result q
    (c.is_hub.ensures.0 c.if-is_hub.true) inside c.index-states-arrival.is in
    (λ x. same.0 ((h q).0 x), λ x. (h q).1 (same.1 x))) c.edge_targets.ensures
