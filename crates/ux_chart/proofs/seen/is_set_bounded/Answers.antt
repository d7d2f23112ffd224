use Rattle.ux_chart.proofs.Searching.{bounded}
use Rattle.ux_chart.proofs.seen.is_set_bounded.Goals as goal

pub returns : goal.returns
returns g c = λ all h.
    bounded _ c.requires g.met.T.Eq.laws c.args.many.now.keys all c.len.ensures.unique h
