use Rattle.std.proofs.Common.{◌++◌, ◌∙◌, List, ap}
use Rattle.std.specs.List.{flat_map}
use Rattle.ux_net.specs.declared.state.Edge.{Edge}
use Rattle.ux_flatten.specs.Cutting.{callee_of, callees_in, callees_of}
use Rattle.ux_flatten.specs.Making.{word_at}
use Rattle.ux_flatten.proofs.GrowthLemmas.{flat_all, flat_more}
use Rattle.ux_flatten.proofs.cuts.push_all.Goals as goal

pub loop-state-preserved : goal.loop-state-preserved
loop-state-preserved c =
    let words = word_at c.args.words.now in
    let list = c.loop-state.list.items in
    flat_more (callees_of words) c.args.states.now c.loop-state.state-index c.state-item.result list
    c.push_state.new.list.items (c.args.list.now.items ++ callees_in words c.args.states.now)
    c.loop-state-test.true c.state-item.is c.loop-state.invariant
    (c.in_ok-push_state.ensures
    ∙ ap (λ (l : List Edge). list ++ flat_map (callee_of words) l) c.as_slice.ensures)

pub returns : goal.returns
returns c =
    let words = word_at c.args.words.now in
    flat_all (callees_of words) c.args.states.now c.loop-state.state-index c.loop-state.list.items
    (c.args.list.now.items ++ callees_in words c.args.states.now) c.loop-state-test.false
    c.loop-state.invariant
