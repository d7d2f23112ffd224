use Rattle.std.proofs.Common.{List, Bool, subst, sym}
use Rattle.ux_apply.specs.Unknown.{AreMarkedIn}
use Rattle.ux_apply.proofs.UnknownLemmas.{Contains-insert, one_marked}
use Rattle.ux_apply.proofs.unknown.put_number.Goals as goal

pub returns-clause-marked : goal.returns-clause-marked
returns-clause-marked c =
    subst (λ (marks : List Bool). AreMarkedIn marks c.insert.new.self.keys)
    (sym c.mark.ensures)
    (one_marked c.args.marks.now.items c.args.set.now c.insert.new.self c.args.number
    c.in_ok-insert.ensures.updates c.requires)

pub returns-clause-numbers : goal.returns-clause-numbers
returns-clause-numbers c n =
    Contains-insert c.args.set.now c.insert.new.self c.args.number n
    c.in_ok-insert.ensures.updates
