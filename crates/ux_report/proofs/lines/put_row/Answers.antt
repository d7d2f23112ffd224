use Rattle.std.proofs.Common.{arith}
use Rattle.ux_report.specs.Lines.{IsLongerPrinted}
use Rattle.ux_report.proofs.LinesLemmas.{more-all, more-item}
use Rattle.ux_report.proofs.lines.put_row.Goals as goal

pub loop-last-preserved : goal.loop-last-preserved
loop-last-preserved c =
    more-item (IsLongerPrinted c.args.first) c.args.row.now c.loop-last.last-index
    c.loop-last-item.result (omega arith) c.loop-last-item.is c.args.lines.now.keys
    c.loop-last.lines.keys c.put_longer.new.lines.keys c.loop-last.invariant
    c.in_ok-put_longer.ensures

pub returns : goal.returns
returns c =
    more-all (IsLongerPrinted c.args.first) c.args.row.now c.loop-last.last-index (omega arith)
    c.args.lines.now.keys c.loop-last.lines.keys c.loop-last.invariant
