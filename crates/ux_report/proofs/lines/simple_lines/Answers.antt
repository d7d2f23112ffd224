use Rattle.std.proofs.Common.{[], arith}
use Rattle.ux_report.specs.Lines.{IsSimpleAt}
use Rattle.ux_report.proofs.LinesLemmas.{more-all, more-next}
use Rattle.ux_report.proofs.lines.simple_lines.Goals as goal

pub loop-place-preserved : goal.loop-place-preserved
loop-place-preserved c =
    more-next (IsSimpleAt c.args.applied.now) c.args.places.now c.loop-place.place-index _
    (omega arith) [] c.loop-place.lines.keys c.put_simple.new.lines.keys c.loop-place.invariant
    c.in_ok-put_simple.ensures

pub returns : goal.returns
returns c =
    more-all (IsSimpleAt c.args.applied.now) c.args.places.now c.loop-place.place-index
    (omega arith) [] c.loop-place.lines.keys c.loop-place.invariant
