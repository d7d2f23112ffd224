use Rattle.std.proofs.Common.{◌∙◌, subst}
use Rattle.ux_lexical_tables.specs.Belonging.{Belongs}
use Rattle.ux_net.specs.Measured.{IsMeasured}
use Rattle.ux_net.specs.Nets.{ArePlain}
use Rattle.ux_walk.specs.Settings.{Setting}
use Rattle.ux_walker.proofs.EndsLaws.{ends_from_walk}
use Rattle.ux_walker.proofs.walker.Walker.ends_from.Goals as goal

pub returns-clause-ends : goal.returns-clause-ends
returns-clause-ends c =
    let is = c.self.view_is in
    ends_from_walk c.walk.new.automaton c.args.self.now
    (c.in_ok-walk.ensures.same ∙ (c.self.invariant.automaton c.if-self.false ∙ is))
    (subst (λ (s : Setting). Belongs s.alphabet s.tokens s.tables) is c.self.invariant.table.belongs)
    (subst (λ (s : Setting). IsMeasured s.net) is c.is_measured.ensures)
    (subst (λ (s : Setting). ArePlain s.net) is c.self.invariant.plain) c.args.start
    c.requires.inside c.walk.new.ends.items c.in_ok-walk.ensures.ends
