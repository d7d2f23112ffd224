use Rattle.ux_chart.proofs.ClosingStateLemmas.{unmarked}
use Rattle.ux_chart.proofs.gathering.close_marked.Goals as goal

pub returns : goal.returns
returns c =
    unmarked c.args.net.now c.args.graph c.args.marks.now c.requires c.args.config
    c.args.closers.now.items c.is_marked.result c.if-is_marked.false c.is_marked.ensures
