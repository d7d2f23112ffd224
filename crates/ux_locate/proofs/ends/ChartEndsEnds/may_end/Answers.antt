use Rattle.std.proofs.Common.{rules}
use Rattle.std.proofs.lemmas.List.{nil_from_length}
use Rattle.ux_locate.proofs.AfterLemmas.{no_ends}
use Rattle.ux_locate.proofs.ends.ChartEndsEnds.may_end.Goals as goal

pub returns : goal.returns
returns c none free =
    let all = c.at.result.now in
    no_ends c.args.self.now c.args.start all c.at.ensures.exactly
    (nil_from_length all (search rules))
