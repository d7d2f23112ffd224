use Rattle.std.proofs.lemmas.Map.Made.{IsDistinct-from_AllPairs}
use Rattle.ux_chart.proofs.Searching.{bounded}
use Rattle.ux_chart.proofs.seen.are_bounded.Goals as goal

pub returns : goal.returns
returns g c = λ all h.
    bounded _ c.requires.exact g.met.T.Eq.laws c.args.few.now all
    (IsDistinct-from_AllPairs c.requires.exact c.args.few.now c.requires.distinct) h
