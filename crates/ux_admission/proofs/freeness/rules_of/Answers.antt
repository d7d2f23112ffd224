use Rattle.std.proofs.Common.{List, subst}
use Rattle.ux_digraph.specs.declared.closing.Rule.{Rule}
use Rattle.ux_admission.specs.Gains.{Gains, SoOfOne}
use Rattle.ux_admission.specs.Ways.{IsRuleOf}
use Rattle.ux_admission.proofs.freeness.rules_of.Goals as goal

pub returns : goal.returns
returns c =
    subst (λ (rules : List Rule). Gains rules c.push_rules.new.rules.items
    (SoOfOne c.args.ways.now IsRuleOf)) c.new-rules.ensures.items c.in_ok-push_rules.ensures
