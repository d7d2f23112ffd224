use Rattle.std.proofs.Common.{inl, inr, refl}
use Rattle.std.proofs.lemmas.Result.{on_ok_weaker}
use Rattle.ux_listing.proofs.marking.KnownOriginsOrigins.note.Goals as goal

pub returns-clause-sound : goal.returns-clause-sound
returns-clause-sound c = on_ok_weaker c.add.result (λ more. (more c.requires).grouped) c.add.ensures

pub returns-clause-kept : goal.returns-clause-kept
returns-clause-kept c = on_ok_weaker c.add.result
    (λ more i o h. ((more c.requires).exact i o).1 (inl h)) c.add.ensures

pub returns-clause-noted : goal.returns-clause-noted
returns-clause-noted c = on_ok_weaker c.add.result
    (λ more. ((more c.requires).exact c.args.item c.args.origin).1 (inr (refl, refl))) c.add.ensures
