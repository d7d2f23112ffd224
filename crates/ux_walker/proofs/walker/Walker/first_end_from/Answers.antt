use Rattle.std.proofs.Common.{◌∙◌, subst}
use Rattle.ux_lexical_tables.specs.Belonging.{Belongs}
use Rattle.ux_net.specs.Measured.{IsMeasured}
use Rattle.ux_net.specs.Nets.{ArePlain}
use Rattle.ux_walk.specs.Settings.{Setting}
use Rattle.ux_walker.proofs.EndsLaws.{first_from_walk}
use Rattle.ux_walker.proofs.walker.Walker.first_end_from.Goals as goal

pub returns-clause-first : goal.returns-clause-first
returns-clause-first c =
    let is = c.self.view_is in
    let walked = c.in_ok-walk_to_first.ensures in
    first_from_walk c.walk_to_first.new.automaton c.args.self.now
    (walked.same ∙ (c.self.invariant.automaton c.if-self.false ∙ is))
    (subst (λ (s : Setting). Belongs s.alphabet s.tokens s.tables) is c.self.invariant.table.belongs)
    (subst (λ (s : Setting). IsMeasured s.net) is c.is_measured.ensures)
    (subst (λ (s : Setting). ArePlain s.net) is c.self.invariant.plain) c.args.start
    c.requires.inside c.walk_to_first.new.ends.items walked.walked
