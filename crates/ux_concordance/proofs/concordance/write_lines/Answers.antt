use Rattle.std.proofs.Common.{◌∙◌, ◌++◌, ℕ, List, sym, ap, subst}
use Rattle.ux_concordance.specs.Concordance.{written}
use Rattle.ux_concordance.specs.Lent.{IsFilled, line_of}
use Rattle.ux_concordance.proofs.LinesLemmas.{written_more}
use Rattle.ux_concordance.proofs.concordance.write_lines.Goals as goal

pub loop-line-preserved : goal.loop-line-preserved
loop-line-preserved c = λ columns filled.
    let line = c.line-item.result in
    let more =
    written_more columns c.args.lines.now c.loop-line.line-index line c.loop-line-test.true
    c.line-item.is in
    let one = filled c.loop-line.line-index line c.loop-line-test.true in
    c.in_ok-push_line.ensures columns (subst (IsFilled columns) (sym c.line-item.is) one)
    ∙ ap (λ (l : List ℕ). l ++ written columns (line_of line))
    (c.loop-line.invariant columns filled)
    ∙ sym more
