use Rattle.std.proofs.Common.{arith, ◌≡◌, ◌∙◌, ◌<◌, ℕ, [], ◌∷◌, ◌++◌, length, ap, subst}
use Rattle.std.proofs.lemmas.List.{get_or_default}
use Rattle.ux_state_places.specs.Arriving.{AreWaysBelow}
use Rattle.ux_state_places.proofs.ArrivingLemmas.{ways_next, are_arrivals, are_firsts}
use Rattle.ux_state_places.proofs.arrivals.ways_into.Goals as goal

pub loop-state-preserved : goal.loop-state-preserved
loop-state-preserved c =
    let len = c.in_ok-rows.ensures.len in
    let low = c.loop-state-test.true in
    let inside : c.loop-state.state < length c.in_ok-rows.rows.items = omega (arith, len, low) in
    ways_next c.in_ok-rows.rows.items c.loop-state.state c.loop-state.kinds.items
    c.push.new.self.items c.loop-state.firsts.items c.push-in-loop-state.new.self.items
    c.loop-state.arrivals.keys c.push_arrivals.new.arrivals.keys c.as_slice-row.result.now
    c.hub_kind-hub.result
    (c.as_slice-row.ensures ∙ (c.index.ensures ∙ get_or_default c.in_ok-rows.rows.items
    c.loop-state.state c.index.result.now [] inside)) c.in_ok-push.ensures.items
    (c.in_ok-push-2.ensures.items
    ∙ ap (λ (n : ℕ). c.loop-state.firsts.items ++ n ∷ []) c.len.ensures.len)
    c.loop-state.invariant c.hub_kind-hub.ensures
    c.in_ok-push_arrivals.ensures.added c.in_ok-push_arrivals.ensures.first

pub returns : goal.returns
returns c =
    let states = c.args.states.now in
    let rows = c.in_ok-rows.rows.items in
    let kinds = c.loop-state.kinds.items in
    let firsts = c.loop-state.firsts.items in
    let arrivals = c.loop-state.arrivals.keys in
    let most = c.loop-state.auto.state-end in
    let least = c.loop-state-test.false in
    let all : c.loop-state.state ≡ length states = omega (arith, most, least) in
    let ways = subst (λ (n : ℕ). AreWaysBelow rows n kinds firsts arrivals) all
    c.loop-state.invariant in
    record {
      are = are_arrivals states rows kinds firsts arrivals c.in_ok-rows.ensures.kinds ways
          c.requires.some c.requires.inside;
      firsts = are_firsts states rows kinds firsts arrivals c.in_ok-rows.ensures.kinds ways;
    }
