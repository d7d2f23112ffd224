use Rattle.std.proofs.Common.{◌++◌, ◌∙◌, Bool, List, ap, cond, sym, []}
use Rattle.std.specs.List.{flat_map}
use Rattle.ux_net.specs.declared.state.Edge.{Edge}
use Rattle.ux_net.specs.declared.state.State.{State}
use Rattle.ux_flatten.specs.Cutting.{callee_of, callees_of, negative_callees}
use Rattle.ux_flatten.specs.Making.{word_at}
use Rattle.ux_flatten.proofs.CutLemmas.{negative_all, negative_more}
use Rattle.ux_flatten.proofs.cuts.push_negative.Goals as goal

pub loop-a-preserved : goal.loop-a-preserved
loop-a-preserved c =
    let words = word_at c.args.words.now in
    let row = c.args.negative.now in
    let states = c.args.states.now in
    let a = c.loop-a.a in
    let list = c.loop-a.list.items in
    negative_more words row a states c.index-states-a.result list c.push_marked.new.list.items
    (c.args.list.now.items ++ negative_callees words row 0 states) c.loop-a-test.true
    c.index-states-a.is c.loop-a.invariant
    (c.in_ok-push_marked.ensures
    ∙ (ap (λ (l : List Edge). list ++ cond c.is_mark.result (flat_map (callee_of words) l) [])
    c.as_slice.ensures
    ∙ (ap (λ (s : State). list ++ cond c.is_mark.result (callees_of words s) [])
    (sym c.index-states-a.is)
    ∙ ap (λ (b : Bool). list ++ cond b (callees_of words c.index-states-a.result) [])
    c.is_mark.ensures)))

pub returns : goal.returns
returns c =
    let words = word_at c.args.words.now in
    negative_all words c.args.negative.now c.loop-a.a c.args.states.now c.loop-a.list.items
    (c.args.list.now.items ++ negative_callees words c.args.negative.now 0 c.args.states.now)
    c.loop-a-test.false c.loop-a.invariant
