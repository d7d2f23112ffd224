use Rattle.std.proofs.Common.{[], ℕ, List, arith, subst}
use Rattle.ux_report.specs.Lines.{FromSome, HasMore, IsText}
use Rattle.ux_report.proofs.LinesLemmas.{more-all, more-next}
use Rattle.ux_report.proofs.lines.unknown_lines.Goals as goal

pub loop-number-preserved : goal.loop-number-preserved
loop-number-preserved c =
    more-next (IsText c.args.text.now c.args.places.now) c.unknown-number-items.result.now
    c.loop-number.number-index _ (omega arith) [] c.loop-number.lines.keys
    c.put_word.new.lines.keys c.loop-number.invariant c.in_ok-put_word.ensures

pub returns : goal.returns
returns c =
    subst
    (λ (l : List ℕ). HasMore [] (FromSome l (IsText c.args.text.now c.args.places.now))
    c.loop-number.lines.keys) c.unknown-number-items.ensures
    (more-all (IsText c.args.text.now c.args.places.now) c.unknown-number-items.result.now
    c.loop-number.number-index (omega arith) [] c.loop-number.lines.keys c.loop-number.invariant)
