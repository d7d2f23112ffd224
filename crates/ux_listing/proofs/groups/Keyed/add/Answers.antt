use Rattle.std.proofs.lemmas.Result.{on_ok_weaker}
use Rattle.ux_listing.proofs.GroupsLemmas.{keyed_more}
use Rattle.ux_listing.proofs.groups.Keyed.add.Goals as goal

pub returns : goal.returns
returns g c = on_ok_weaker c.add.result (λ more keyed. keyed_more _ _ c.args.key c.args.value
    c.in_ok-group.group c.in_ok-group.ensures.added c.in_ok-group.ensures.numbered
    c.stand_once.ensures more keyed) c.add.ensures
