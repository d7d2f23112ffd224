use Rattle.std.proofs.Common.{subst, sym, ◌∙◌}
use Rattle.std.specs.Option.{option_to_list}
use Rattle.ux_walker.specs.Agendas.{IsFalling}
use Rattle.ux_walker.proofs.AgendaLemmas.{falling_left, taken_least}
use Rattle.ux_walker.proofs.agenda.Agenda.take_least.Goals as goal

pub invariant_of-self : goal.invariant_of-self
invariant_of-self c = falling_left c.pop.new.self.items (option_to_list c.pop.result)
    (subst IsFalling c.pop.ensures.items c.self.invariant)

pub returns-clause-least : goal.returns-clause-least
returns-clause-least c = taken_least c.args.self.now c.pop.new.self.items c.pop.result
    (subst IsFalling c.self.view_is c.self.invariant) (sym c.self.view_is ∙ c.pop.ensures.items)
