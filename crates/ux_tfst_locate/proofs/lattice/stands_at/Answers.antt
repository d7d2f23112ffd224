use Rattle.std.proofs.Common.{◌∙◌, Some, ap, sym}
use Rattle.ux_tfst_locate.proofs.LatticeLemmas.{same_place}
use Rattle.ux_tfst_locate.proofs.lattice.stands_at.Goals as goal

pub returns-in-Some : goal.returns-in-Some
returns-in-Some c = λ yes. sym c.place_at.ensures ∙ (c.in-Some.is
    ∙ ap Some (same_place c.in-Some.there c.args.place.now (sym c.eq.ensures ∙ yes)))
