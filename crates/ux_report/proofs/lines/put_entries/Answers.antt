use Rattle.std.proofs.Common.{arith}
use Rattle.ux_report.specs.Lines.{IsPrinted}
use Rattle.ux_report.proofs.LinesLemmas.{more-all, more-item}
use Rattle.ux_report.proofs.lines.put_entries.Goals as goal

pub loop-entry-preserved : goal.loop-entry-preserved
loop-entry-preserved c =
    more-item IsPrinted c.args.entries.now c.loop-entry.entry-index c.entry-item.result
    (omega arith) c.entry-item.is c.args.lines.now.keys c.loop-entry.lines.keys
    c.put_entry.new.lines.keys c.loop-entry.invariant c.in_ok-put_entry.ensures

pub returns : goal.returns
returns c =
    more-all IsPrinted c.args.entries.now c.loop-entry.entry-index (omega arith)
    c.args.lines.now.keys c.loop-entry.lines.keys c.loop-entry.invariant
