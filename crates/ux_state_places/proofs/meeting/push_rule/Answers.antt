use Rattle.std.proofs.Common.{refl}
use Rattle.ux_admission.proofs.GainsLemmas.{gains_one}
use Rattle.ux_state_places.specs.Meeting.{rule_of_link, IsRuleOf}
use Rattle.ux_state_places.proofs.meeting.push_rule.Goals as goal

pub returns : goal.returns
returns c =
    gains_one c.args.rules.now.items c.push.new.self.items (rule_of_link c.args.link)
    (IsRuleOf c.args.link) c.in_ok-push.ensures.items refl (λ rule e. e)
