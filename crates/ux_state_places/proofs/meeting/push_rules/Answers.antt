use Rattle.std.proofs.Common.{get_or}
use Rattle.std.proofs.lemmas.List.{get_or_default}
use Rattle.ux_admission.proofs.GainsLemmas.{gains_item, gains_items}
use Rattle.ux_state_places.specs.Meeting.{IsRuleOf, no_link}
use Rattle.ux_state_places.proofs.meeting.push_rules.Goals as goal

pub loop-link-preserved : goal.loop-link-preserved
loop-link-preserved c =
    let link = get_or c.args.links.now c.loop-link.link-index no_link in
    gains_item c.args.rules.now.items c.loop-link.rules.items c.push_rule.new.rules.items
    c.args.links.now c.loop-link.link-index link IsRuleOf c.loop-link-test.true
    (get_or_default c.args.links.now c.loop-link.link-index no_link link c.loop-link-test.true)
    c.loop-link.invariant c.in_ok-push_rule.ensures

pub returns : goal.returns
returns c =
    gains_items c.args.rules.now.items c.loop-link.rules.items c.args.links.now
    c.loop-link.link-index IsRuleOf c.loop-link-test.false c.loop-link.invariant
