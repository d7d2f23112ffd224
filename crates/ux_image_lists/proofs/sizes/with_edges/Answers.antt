use Rattle.std.proofs.Common.{rules}
use Rattle.std.proofs.lemmas.List.{get_or_default}
use Rattle.ux_image_lists.proofs.SumLemmas.{sum_start, sum_step}
use Rattle.ux_image_lists.proofs.sizes.with_edges.Goals as goal

pub loop-edge-init : goal.loop-edge-init
loop-edge-init c = sum_start c.args.own c.args.edges.now c.args.sums.now (search rules)

pub loop-edge-preserved : goal.loop-edge-preserved
loop-edge-preserved c =
    sum_step c.args.own c.loop-edge.edge-index c.args.edges.now _ c.args.sums.now c.loop-edge.sum _
    c.with_edge-sum.result c.loop-edge.invariant c.loop-edge-test.true
    (λ d. get_or_default c.args.edges.now c.loop-edge.edge-index d _ c.loop-edge-test.true)
    (λ d. get_or_default c.args.sums.now _ d _ (search rules)) c.with_edge-sum.ensures.codes
    c.with_edge-sum.ensures.letters
