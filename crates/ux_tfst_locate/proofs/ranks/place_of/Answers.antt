use Rattle.ux_tfst_locate.proofs.RanksLemmas.{never_missed}
use Rattle.ux_tfst_locate.proofs.ranks.place_of.Goals as goal

pub returns-in-Err : goal.returns-in-Err
returns-in-Err g c =
    absurd (never_missed g.met.T.Ord.total c.args.sorted.now c.args.item.now c.requires.in_order
    c.requires.there c.in-Err.place c.in-Err.ensures.position)
