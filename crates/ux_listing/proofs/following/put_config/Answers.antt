use Rattle.std.proofs.lemmas.Result.{on_ok_weaker}
use Rattle.ux_listing.proofs.following.put_config.Goals as goal

pub returns-clause-adds : goal.returns-clause-adds
returns-clause-adds g c = on_ok_weaker c.push.result (λ added. added.adds) c.push.ensures

pub returns-clause-put : goal.returns-clause-put
returns-clause-put g c = on_ok_weaker c.push.result (λ added m. added.has) c.push.ensures
