use Rattle.std.proofs.lemmas.Result.{on_ok_weaker}
use Rattle.ux_report.specs.Lines.{IsLongerPrinted, IsPrinted}
use Rattle.ux_report.proofs.LinesLemmas.{more-same}
use Rattle.ux_report.proofs.lines.put_longer.Goals as goal

pub returns-then-first-last : goal.returns-then-first-last
returns-then-first-last c =
    on_ok_weaker c.put_entry.result
    (more-same (IsPrinted c.args.entry.now)
    (IsLongerPrinted c.args.first (c.args.last, c.args.entry.now)) c.args.lines.now.keys
    c.put_entry.new.lines.keys
    (λ line. (λ is. (c.if-first-last.true, is), λ is. is.1))) c.put_entry.ensures
