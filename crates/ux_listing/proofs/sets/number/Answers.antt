use Rattle.std.proofs.lemmas.Result.{IfOk-weaker, on_ok_weaker}
use Rattle.ux_folds.proofs.NumberedLemmas.{at_number}
use Rattle.ux_listing.proofs.SetsLemmas.{added_key}
use Rattle.ux_listing.proofs.sets.number.Goals as goal

pub returns-clause-added : goal.returns-clause-added
returns-clause-added g c = on_ok_weaker c.number.result (λ made. added_key _ c.requires
    c.args.set.now.keys c.number.new.self.keys c.args.item made) c.number.ensures.keys

pub returns-clause-numbered : goal.returns-clause-numbered
returns-clause-numbered g c = IfOk-weaker c.number.result _ _ (λ number has.
    at_number _ c.requires c.number.new.self.keys c.args.item number has) c.number.ensures.stored
