use Rattle.std.proofs.Common.{refl}
use Rattle.ux_dawg.proofs.FitLemmas.{fit_tells}
use Rattle.ux_dawg.proofs.fit.is_fit.Goals as goal

pub returns-then-ascend : goal.returns-then-ascend
returns-then-ascend c =
    let tells = fit_tells c.args.number c.args.state.now c.as_slice-edges.result.now
    c.as_slice-edges.ensures (c.if-ascend.ensures.0 refl) in (
      λ yes. tells.0 (c.lead_below.ensures.0 yes),
      λ fit. c.lead_below.ensures.1 (tells.1 fit),
    )
