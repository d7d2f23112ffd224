use Rattle.std.proofs.Common.{arith}
use Rattle.ux_locate.proofs.StartLemmas.{start_within}
use Rattle.ux_locate.proofs.walks.find_first_end.Goals as goal

pub first-requires : goal.first-requires
first-requires g c =
    let low = start_within (g.E.Ends.setting c.args.finder.now).tokens c.args.start c.requires in
    omega (arith, low)
