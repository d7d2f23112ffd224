use Rattle.std.proofs.Common.{get_or}
use Rattle.ux_admission.specs.Ways.{no_way, IsRuleOf}
use Rattle.std.proofs.lemmas.List.{get_or_default}
use Rattle.ux_admission.proofs.GainsLemmas.{gains_item, gains_items}
use Rattle.ux_admission.proofs.freeness.push_rules.Goals as goal

pub loop-way-preserved : goal.loop-way-preserved
loop-way-preserved c =
    let way = get_or c.args.ways.now c.loop-way.way-index no_way in
    gains_item c.args.rules.now.items c.loop-way.rules.items c.push_rule.new.rules.items
    c.args.ways.now c.loop-way.way-index way IsRuleOf c.loop-way-test.true
    (get_or_default c.args.ways.now c.loop-way.way-index no_way way c.loop-way-test.true)
    c.loop-way.invariant c.in_ok-push_rule.ensures

pub returns : goal.returns
returns c =
    gains_items c.args.rules.now.items c.loop-way.rules.items c.args.ways.now
    c.loop-way.way-index IsRuleOf c.loop-way-test.false c.loop-way.invariant
