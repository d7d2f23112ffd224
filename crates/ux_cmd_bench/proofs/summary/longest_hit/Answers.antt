use Rattle.std.proofs.Common.{◌∙◌, ℕ, ◌+◌, ap, max, sym}
use Rattle.std.specs.Ordering.{nat_cmp, ord_max}
use Rattle.ux_cmd_bench.specs.Summaries.{tokens_in}
use Rattle.ux_cmd_bench.proofs.LongestLemmas.{hits_more, max_by_order}
use Rattle.ux_cmd_bench.proofs.summary.longest_hit.Goals as goal

pub loop-hit-preserved : goal.loop-hit-preserved
loop-hit-preserved c =
    let hit = c.hit-item.result in
    let more = hits_more c.args.hits.now c.loop-hit.hit-index hit c.loop-hit-test.true c.hit-item.is in
    c.max-longest.ensures
    ∙ (ap (λ (gap : ℕ). ord_max nat_cmp c.loop-hit.longest (gap + 1)) c.saturating_sub.ensures
    ∙ (max_by_order c.loop-hit.longest (tokens_in hit)
    ∙ (ap (λ (m : ℕ). max m (tokens_in hit)) c.loop-hit.invariant ∙ sym more)))
