use Rattle.ux_report.proofs.LinesLemmas.{more-insert}
use Rattle.ux_report.proofs.lines.put_line.Goals as goal

pub returns : goal.returns
returns c =
    more-insert c.args.lines.now.keys c.insert.new.self.keys c.args.line c.in_ok-insert.ensures.keys
