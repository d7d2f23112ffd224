use Rattle.ux_concordance.proofs.LinesLemmas.{lines_more}
use Rattle.ux_concordance.proofs.concordance.lines_of.Goals as goal

pub loop-hit-preserved : goal.loop-hit-preserved
loop-hit-preserved c =
    lines_more c.args.text.now c.args.left c.args.right c.args.hits.now c.loop-hit.hit-index
    c.hit-item.result c.loop-hit.lines.items _ c.line_of.result c.loop-hit-test.true c.hit-item.is
    c.loop-hit.invariant c.line_of.ensures.hit c.line_of.ensures.is c.in_ok-push.ensures.items
