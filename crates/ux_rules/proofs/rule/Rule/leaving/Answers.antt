use Rattle.std.proofs.Common.{ℕ, List, subst, sym}
use Rattle.ux_rules.specs.Rules.{RuleSteps, IsLeaving}
use Rattle.ux_rules.proofs.rule.Rule.leaving.Goals as goal

pub returns : goal.returns
returns c =
    subst (λ (r : RuleSteps). IsLeaving r.steps c.args.place c.row_of.result.now) c.self.view_is
    (subst (λ (ns : List ℕ). IsLeaving c.self.inside.steps.items c.args.place ns)
    (sym c.row_of.ensures) (c.self.invariant.1 c.args.place))
