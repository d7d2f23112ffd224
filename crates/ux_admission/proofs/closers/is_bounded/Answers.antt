use Rattle.ux_admission.proofs.FindsLemmas.{bounded}
use Rattle.ux_admission.proofs.closers.is_bounded.Goals as goal

pub returns : goal.returns
returns g c = λ all h.
    bounded _ c.requires g.met.T.Eq.laws c.args.set.now.keys all c.len.ensures.unique h
