use Rattle.std.proofs.Common.{◌∙◌, arith, subst}
use Rattle.ux_lexical_tables.specs.Belonging.{Belongs}
use Rattle.ux_net.specs.Measured.{IsMeasured}
use Rattle.ux_net.specs.Nets.{ArePlain}
use Rattle.ux_meaning.specs.Texts.{IsSpaceAt}
use Rattle.ux_walk.specs.Settings.{Setting}
use Rattle.ux_automaton.specs.Fronts.{BeginsNothing}
use Rattle.ux_walker.proofs.EndsLaws.{ends_from_nothing}
use Rattle.ux_walker.proofs.walker.Walker.may_begin.Goals as goal

pub returns : goal.returns
returns c none free =
    let start = c.args.start in
    let is = c.self.view_is in
    ends_from_nothing c.args.self.now
    (subst (λ (s : Setting). Belongs s.alphabet s.tokens s.tables) is c.self.invariant.table.belongs)
    (subst (λ (s : Setting). IsMeasured s.net) is c.is_measured.ensures)
    (subst (λ (s : Setting). ArePlain s.net) is c.self.invariant.plain) start
    (let inside = c.requires.inside in omega (arith, inside))
    (subst (λ (s : Setting). (IsSpaceAt s.tokens start → ⊥) → BeginsNothing s start)
    (c.self.invariant.automaton c.if-self.false ∙ is) (c.may_begin.ensures none) free)
