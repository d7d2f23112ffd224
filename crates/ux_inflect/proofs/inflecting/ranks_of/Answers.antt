use Rattle.std.proofs.Common.{subst}
use Rattle.ux_inflect.specs.declared.classes.Ending.{Ending}
use Rattle.ux_inflect.specs.Endings.{IsEnding}
use Rattle.ux_inflect.proofs.EndingLemmas.{cyclic_there}
use Rattle.ux_inflect.proofs.inflecting.ranks_of.Goals as goal

pub name-requires-clause-from : goal.name-requires-clause-from
name-requires-clause-from c =
    let first = subst (λ (e : Ending). IsEnding c.args.net.now e) c.in-Endless.is c.in_ok-ranks.ensures in
    (cyclic_there c.args.net.now c.in-Endless.graph first.cyclic).0

pub name-requires-clause-to : goal.name-requires-clause-to
name-requires-clause-to c =
    let first = subst (λ (e : Ending). IsEnding c.args.net.now e) c.in-Endless.is c.in_ok-ranks.ensures in
    (cyclic_there c.args.net.now c.in-Endless.graph first.cyclic).1
