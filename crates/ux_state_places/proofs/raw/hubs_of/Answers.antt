use Rattle.std.proofs.Common.{arith, ◌<◌, ◌≤◌, length}
use Rattle.ux_state_places.specs.RawPlaces.{IsHubPlace}
use Rattle.ux_state_places.proofs.RawLemmas.{made_next, made_done, hub_numbered, first_below, hubs_made}
use Rattle.ux_state_places.proofs.raw.hubs_of.Goals as goal

pub place_number-requires : goal.place_number-requires
place_number-requires c =
    let ways = c.args.ways.now in
    let inside : c.loop-state.state < length ways.firsts.items =
    omega (arith, c.loop-state-test.true, c.len-state-end.ensures, ways.firsts.ok.0) in
    let low = first_below ways.kinds.items ways.arrivals.keys ways.firsts.items c.loop-state.state
    c.index.result.now c.requires.firsts inside c.index.ensures in
    let few = c.requires.few in
    omega (arith, low, few)

pub loop-state-preserved : goal.loop-state-preserved
loop-state-preserved c =
    let ways = c.args.ways.now in
    let inside : c.loop-state.state < length ways.firsts.items =
    omega (arith, c.loop-state-test.true, c.len-state-end.ensures, ways.firsts.ok.0) in
    made_next (IsHubPlace ways.kinds.items ways.arrivals.keys) c.loop-state.state
    c.loop-state.row.items c.push.new.self.items c.place_number.result c.loop-state.invariant
    c.in_ok-push.ensures.items
    (hub_numbered ways.kinds.items ways.arrivals.keys ways.firsts.items c.loop-state.state
    c.index.result.now c.place_number.result c.requires.firsts inside c.index.ensures
    c.place_number.ensures)

pub returns : goal.returns
returns c =
    let ways = c.args.ways.now in
    let len = c.requires.firsts.len in
    let most : c.loop-state.state ≤ length ways.kinds.items =
    omega (arith, c.loop-state.auto.state-end, c.len-state-end.ensures, ways.firsts.ok.0, len) in
    let least : length ways.kinds.items ≤ c.loop-state.state =
    omega (arith, c.loop-state-test.false, c.len-state-end.ensures, ways.firsts.ok.0, len) in
    hubs_made ways.kinds.items ways.arrivals.keys c.loop-state.row.items
    (made_done (IsHubPlace ways.kinds.items ways.arrivals.keys) c.loop-state.state
    (length ways.kinds.items) c.loop-state.row.items most least c.loop-state.invariant)
