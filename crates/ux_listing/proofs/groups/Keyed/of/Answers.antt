use Rattle.std.proofs.Common.{sym}
use Rattle.std.proofs.lemmas.Result.{IfOk-weaker}
use Rattle.ux_listing.proofs.GroupsLemmas.{keyed_some, keyed_none}
use Rattle.ux_listing.proofs.groups.Keyed.of.Goals as goal

pub returns-in-Some : goal.returns-in-Some
returns-in-Some g c = IfOk-weaker c.of.result _ _ (λ values told keyed.
    keyed_some c.args.self.now c.args.key c.in-Some.group c.place_of.result values.items
    c.in-Some.is c.place_of.ensures (told keyed.grouped)) c.of.ensures

pub returns-in-None : goal.returns-in-None
returns-in-None g c = λ keyed. keyed_none c.args.self.now c.args.key c.place_of.result
    c.new.result.items (sym c.in-None.is) c.new.ensures.items c.place_of.ensures
