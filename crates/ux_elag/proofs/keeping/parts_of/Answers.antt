use Rattle.std.proofs.Common.{◌∙◌}
use Rattle.ux_elag.proofs.PreparedLemmas.{parts-more}
use Rattle.ux_elag.proofs.keeping.parts_of.Goals as goal

pub loop-rule-preserved : goal.loop-rule-preserved
loop-rule-preserved c =
    parts-more c.args.rules.now c.loop-rule.rule-index c.rule-item.result c.new.result
    c.loop-rule.parts.items c.push.new.self.items c.loop-rule-test.true c.rule-item.is
    c.new.ensures.over (c.new.ensures.of ∙ c.as_slice.ensures.value) c.in_ok-push.ensures.items
    c.loop-rule.invariant
