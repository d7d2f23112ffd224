use Rattle.std.proofs.lemmas.Result.{on_ok_weaker}
use Rattle.ux_locate.proofs.FirstEndsLemmas.{first_of_all}
use Rattle.ux_locate.proofs.ends.ChartEndsEnds.first.Goals as goal

pub returns-clause-first : goal.returns-clause-first
returns-clause-first c =
    on_ok_weaker c.push_first_after.result
    (first_of_all c.args.self.now c.args.start c.at.result.now c.at.ensures.exactly
    c.push_first_after.new.ends.items) c.push_first_after.ensures
