use Rattle.ux_folds.proofs.NumberedLemmas.{placed}
use Rattle.ux_folds.proofs.numbered.place.Goals as goal

pub returns : goal.returns
returns g c = placed g.T.PartialEq.eq c.requires.same c.requires.itself c.args.set.now.keys
    c.number.new.self.keys c.args.value c.in_ok-place.place c.in_ok-place.ensures.keys
    c.in_ok-place.ensures.stored c.len.ensures.unique
