use Rattle.std.proofs.Common.{arith, ◌++◌, ◌∙◌, Bool, List, ap, cond, ℕ, []}
use Rattle.ux_net.specs.declared.state.State.{State}
use Rattle.ux_digraph.specs.Rules.{is_marked_at}
use Rattle.ux_flatten.specs.Cutting.{callees_in, made_callees}
use Rattle.ux_flatten.specs.Making.{has_word, word_at}
use Rattle.ux_flatten.proofs.CutLemmas.{made_all, made_more}
use Rattle.ux_flatten.proofs.cuts.made_callees_of.Goals as goal

pub loop-k-init : goal.loop-k-init
loop-k-init c =
    let source = c.args.source.now in
    ap (λ (l : List ℕ). l
    ++ made_callees (has_word source) c.args.copies.now 0 source.graphs.items) c.new-list.ensures.items

pub loop-k-preserved : goal.loop-k-preserved
loop-k-preserved c =
    let source = c.args.source.now in
    let words = has_word source in
    let graphs = source.graphs.items in
    let copies = c.args.copies.now in
    let k = c.loop-k.k in
    let list = c.loop-k.list.items in
    let states = c.as_slice-states.result.now in
    made_more words copies k graphs c.index.result.now list c.push_copied.new.list.items
    (made_callees words copies 0 graphs)
    (omega (arith, c.loop-k-test.true, c.len-k-end.ensures, source.graphs.ok.0)) c.index.ensures
    c.loop-k.invariant
    (c.in_ok-push_copied.ensures
    ∙ (ap (λ (w : List Bool). list ++ cond c.is_mark.result (callees_in (word_at w) states) [])
    c.deref.ensures.value
    ∙ (ap (λ (b : Bool). list ++ cond b (callees_in words states) []) c.is_mark.ensures
    ∙ ap (λ (s : List State). list ++ cond (is_marked_at copies k) (callees_in words s) [])
    c.as_slice-states.ensures)))

pub returns : goal.returns
returns c =
    let source = c.args.source.now in
    let words = has_word source in
    let graphs = source.graphs.items in
    made_all words c.args.copies.now c.loop-k.k graphs c.loop-k.list.items
    (made_callees words c.args.copies.now 0 graphs)
    (omega (arith, c.loop-k-test.false, c.len-k-end.ensures, source.graphs.ok.0)) c.loop-k.invariant
