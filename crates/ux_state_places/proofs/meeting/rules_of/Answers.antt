use Rattle.std.proofs.Common.{List, subst}
use Rattle.ux_digraph.specs.declared.closing.Rule.{Rule}
use Rattle.ux_admission.specs.Gains.{Gains, SoOfOne}
use Rattle.ux_admission.proofs.GainsLemmas.{gains_all}
use Rattle.ux_state_places.specs.Meeting.{IsRuleOf}
use Rattle.ux_state_places.proofs.meeting.rules_of.Goals as goal

pub returns : goal.returns
returns c =
    gains_all c.push_rules.new.rules.items (SoOfOne c.args.links.now IsRuleOf)
    (subst (λ (rules : List Rule). Gains rules c.push_rules.new.rules.items
    (SoOfOne c.args.links.now IsRuleOf)) c.in_ok-rules.ensures.items c.in_ok-push_rules.ensures)
