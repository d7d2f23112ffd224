use Rattle.std.proofs.Common.{[], ℕ, arith, subst}
use Rattle.ux_report.specs.Lines.{HasMore, IsCompoundBefore}
use Rattle.ux_report.proofs.LinesLemmas.{before-next}
use Rattle.ux_report.proofs.lines.compound_lines.Goals as goal

pub loop-first-preserved : goal.loop-first-preserved
loop-first-preserved c =
    before-next c.args.applied.now c.loop-first.first c.compounds.result.now c.compounds.ensures []
    c.loop-first.lines.keys c.put_row.new.lines.keys c.loop-first.invariant
    c.in_ok-put_row.ensures

pub returns : goal.returns
returns c =
    subst (λ (k : ℕ). HasMore [] (IsCompoundBefore c.args.applied.now k) c.loop-first.lines.keys)
    (omega arith) c.loop-first.invariant
