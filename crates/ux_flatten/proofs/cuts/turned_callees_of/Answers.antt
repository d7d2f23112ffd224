use Rattle.std.proofs.Common.{arith, ◌++◌, ◌∙◌, Bool, List, ap, get_or, ℕ, []}
use Rattle.ux_net.specs.declared.state.State.{State}
use Rattle.ux_digraph.specs.Rules.{is_marked_at}
use Rattle.ux_flatten.specs.Cutting.{turned_by, turned_callees}
use Rattle.ux_flatten.specs.Making.{has_word, word_at}
use Rattle.ux_flatten.proofs.CutLemmas.{turned_all, turned_more}
use Rattle.ux_flatten.proofs.cuts.turned_callees_of.Goals as goal

pub loop-k-init : goal.loop-k-init
loop-k-init c =
    let source = c.args.source.now in
    let made = c.args.made.now in
    ap (λ (l : List ℕ). l
    ++ turned_callees (has_word source) made.copies.items made.negative.items c.args.negative.now 0
    source.graphs.items) c.new-list.ensures.items

pub loop-k-preserved : goal.loop-k-preserved
loop-k-preserved c =
    let source = c.args.source.now in
    let words = has_word source in
    let graphs = source.graphs.items in
    let made = c.args.made.now in
    let copies = made.copies.items in
    let negative = made.negative.items in
    let rows = c.args.negative.now in
    let k = c.loop-k.k in
    let list = c.loop-k.list.items in
    let states = c.as_slice-states.result.now in
    let row = c.row_at.result.now in
    let n = c.is_mark.result in
    let m = c.is_mark-in-loop-k.result in
    turned_more words copies negative rows k graphs c.index.result.now list
    c.push_turned.new.list.items (turned_callees words copies negative rows 0 graphs)
    (omega (arith, c.loop-k-test.true, c.len-k-end.ensures, source.graphs.ok.0)) c.index.ensures
    c.loop-k.invariant
    (c.in_ok-push_turned.ensures
    ∙ (ap (λ (w : List Bool). list ++ turned_by (word_at w) n m row states)
    c.deref-in-loop-k-2.ensures.value
    ∙ (ap (λ (b : Bool). list ++ turned_by words b m row states)
    (c.is_mark.ensures ∙ ap (λ (l : List Bool). is_marked_at l k) c.deref.ensures.value)
    ∙ (ap (λ (b : Bool). list ++ turned_by words (is_marked_at negative k) b row states)
    (c.is_mark-in-loop-k.ensures
    ∙ ap (λ (l : List Bool). is_marked_at l k) c.deref-in-loop-k.ensures.value)
    ∙ (ap (λ (r : List Bool). list
    ++ turned_by words (is_marked_at negative k) (is_marked_at copies k) r states) c.row_at.ensures
    ∙ ap (λ (s : List State). list ++ turned_by words (is_marked_at negative k)
    (is_marked_at copies k) (get_or rows k []) s) c.as_slice-states.ensures)))))

pub returns : goal.returns
returns c =
    let source = c.args.source.now in
    let words = has_word source in
    let graphs = source.graphs.items in
    let made = c.args.made.now in
    turned_all words made.copies.items made.negative.items c.args.negative.now c.loop-k.k graphs
    c.loop-k.list.items
    (turned_callees words made.copies.items made.negative.items c.args.negative.now 0 graphs)
    (omega (arith, c.loop-k-test.false, c.len-k-end.ensures, source.graphs.ok.0)) c.loop-k.invariant
