use Rattle.std.proofs.Common.{◌≡◌, ◌∙◌, Bool, List, [], ap, get_or, suc, sym}
use Rattle.ux_digraph.specs.Rules.{is_marked_at}
use Rattle.ux_net.specs.declared.state_graph.StateGraph.{StateGraph}
use Rattle.ux_net.specs.StateGraphs.{told_states}
use Rattle.ux_flatten.proofs.CutLemmas.{cut_moved, first_found, none_found, none_more}
use Rattle.ux_flatten.proofs.WordsLaw.{states_of_graph}
use Rattle.ux_flatten.proofs.cuts.first_in.Goals as goal

pub loop-k-preserved : goal.loop-k-preserved
loop-k-preserved c =
    let graphs = c.args.graphs.now in
    let rows = c.args.negative.now in
    let made = c.args.made.now in
    let k = c.loop-k.k in
    let states : c.as_slice-states.result.now ≡ told_states graphs (suc k) =
    c.as_slice-states.ensures
    ∙ (ap (λ (g : StateGraph). g.states) (sym c.index-graphs-k.is)
    ∙ sym (states_of_graph graphs k c.index-graphs-k.result c.loop-k-test.true c.index-graphs-k.is)) in
    let negative : c.is_mark.result ≡ is_marked_at made.negative.items k =
    c.is_mark.ensures ∙ ap (λ (l : List Bool). is_marked_at l k) c.deref.ensures.value in
    let copied : c.is_mark-in-loop-k.result ≡ is_marked_at made.copies.items k =
    c.is_mark-in-loop-k.ensures
    ∙ ap (λ (l : List Bool). is_marked_at l k) c.deref-in-loop-k.ensures.value in
    none_more graphs rows made k c.loop-k.invariant
    (λ node cut. c.in-None.ensures node
    (cut_moved (told_states graphs (suc k)) c.as_slice-states.result.now (get_or rows k [])
    c.row_at.result.now (is_marked_at made.negative.items k) c.is_mark.result
    (is_marked_at made.copies.items k) c.is_mark-in-loop-k.result node (sym states)
    (sym c.row_at.ensures) (sym negative) (sym copied) cut))

pub returns-in-Some : goal.returns-in-Some
returns-in-Some c =
    let graphs = c.args.graphs.now in
    let rows = c.args.negative.now in
    let made = c.args.made.now in
    let k = c.loop-k.k in
    let states : c.as_slice-states.result.now ≡ told_states graphs (suc k) =
    c.as_slice-states.ensures
    ∙ (ap (λ (g : StateGraph). g.states) (sym c.index-graphs-k.is)
    ∙ sym (states_of_graph graphs k c.index-graphs-k.result c.loop-k-test.true c.index-graphs-k.is)) in
    let negative : c.is_mark.result ≡ is_marked_at made.negative.items k =
    c.is_mark.ensures ∙ ap (λ (l : List Bool). is_marked_at l k) c.deref.ensures.value in
    let copied : c.is_mark-in-loop-k.result ≡ is_marked_at made.copies.items k =
    c.is_mark-in-loop-k.ensures
    ∙ ap (λ (l : List Bool). is_marked_at l k) c.deref-in-loop-k.ensures.value in
    let found = c.in-Some.ensures in
    first_found graphs rows made k c.in-Some.node c.loop-k.invariant
    (cut_moved c.as_slice-states.result.now (told_states graphs (suc k)) c.row_at.result.now
    (get_or rows k []) c.is_mark.result (is_marked_at made.negative.items k)
    c.is_mark-in-loop-k.result (is_marked_at made.copies.items k) c.in-Some.node states
    c.row_at.ensures negative copied found.0)
    (λ node lt cut. found.1 node lt
    (cut_moved (told_states graphs (suc k)) c.as_slice-states.result.now (get_or rows k [])
    c.row_at.result.now (is_marked_at made.negative.items k) c.is_mark.result
    (is_marked_at made.copies.items k) c.is_mark-in-loop-k.result node (sym states)
    (sym c.row_at.ensures) (sym negative) (sym copied) cut))

pub returns : goal.returns
returns c =
    none_found c.args.graphs.now c.args.negative.now c.args.made.now c.loop-k.k c.loop-k.invariant
    c.loop-k-test.false
