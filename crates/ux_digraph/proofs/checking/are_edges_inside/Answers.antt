use Rattle.std.proofs.Common.{◌≡◌, [], sym, ◌∙◌, true, false}
use Rattle.std.proofs.lemmas.List.{get_or_default}
use Rattle.ux_digraph.proofs.CheckingLemmas.{says_true, says_false, rows_more, rows_all, row_fails}
use Rattle.ux_digraph.proofs.checking.are_edges_inside.Goals as goal

pub returns-then-not-are_below : goal.returns-then-not-are_below
returns-then-not-are_below c =
    says_false (row_fails c.args.edges.now c.loop-row.row-index c.as_slice.result.now
    (c.as_slice.ensures ∙ (c.row-item.is ∙ sym (get_or_default c.args.edges.now
    c.loop-row.row-index [] c.row-item.result c.loop-row-test.true)))
    (λ below. let no_way : false ≡ true =
    sym c.if-not-are_below.true ∙ c.are_below.ensures.1 below in cc))

pub loop-row-preserved : goal.loop-row-preserved
loop-row-preserved c =
    rows_more c.args.edges.now c.loop-row.row-index c.as_slice.result.now
    (c.as_slice.ensures ∙ (c.row-item.is ∙ sym (get_or_default c.args.edges.now
    c.loop-row.row-index [] c.row-item.result c.loop-row-test.true)))
    (c.are_below.ensures.0 c.if-not-are_below.false) c.loop-row.invariant

pub returns : goal.returns
returns c =
    says_true (rows_all c.args.edges.now c.loop-row.row-index c.loop-row-test.false
    c.loop-row.invariant)
