use Rattle.std.proofs.Common.{◌∙◌, ℕ, ap, get_or, max, sym}
use Rattle.ux_locate.specs.Spans.{hit_at}
use Rattle.ux_outputs.specs.declared.span.Span.{Span}
use Rattle.ux_cmd_bench.specs.Summaries.{tokens_in}
use Rattle.ux_cmd_bench.proofs.LongestLemmas.{spans_more, max_by_order}
use Rattle.ux_cmd_bench.proofs.summary.longest_span.Goals as goal

pub loop-span-preserved : goal.loop-span-preserved
loop-span-preserved c =
    let none : Span = record { first = 0; last = 0 } in
    let more =
    spans_more c.args.text.now c.args.spans.now c.loop-span.span-index none c.loop-span-test.true in
    c.max-longest.ensures
    ∙ (max_by_order c.loop-span.longest _
    ∙ (ap (λ (m : ℕ). max m (tokens_in (hit_at c.args.text.now (get_or c.args.spans.now
    c.loop-span.span-index none)))) c.loop-span.invariant ∙ sym more))
