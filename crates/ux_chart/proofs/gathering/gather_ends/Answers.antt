use Rattle.std.proofs.Common.{get_or}
use Rattle.std.proofs.lemmas.List.{get_or_default}
use Rattle.std.proofs.lemmas.List.Elements.{Contains-get_or}
use Rattle.ux_chart.specs.declared.config.Config.{Config}
use Rattle.ux_chart.specs.Search.{EndsAt}
use Rattle.ux_chart.proofs.Collecting.{collected_each, collected_more}
use Rattle.ux_chart.proofs.gathering.gather_ends.Goals as goal

pub loop-config-preserved : goal.loop-config-preserved
loop-config-preserved c =
    let none : Config = record { state = 0; at = 0 } in
    let w = get_or c.args.seen.now c.loop-config.config-index none in
    collected_more _ _ c.args.ends.now.items c.loop-config.ends.items c.end_at.new.ends.items
    c.args.seen.now c.loop-config.config-index w
    (λ j. EndsAt c.args.net.now c.args.graph w j) c.loop-config-test.true
    (get_or_default c.args.seen.now c.loop-config.config-index none w c.loop-config-test.true)
    (λ j l. (
      w,
      Contains-get_or c.args.seen.now c.loop-config.config-index none c.loop-config-test.true,
      l,
    ))
    c.loop-config.invariant (λ j. (λ h. h, λ h. h)) c.in_ok-end_at.ensures

pub returns : goal.returns
returns c =
    collected_each _ _ c.args.ends.now.items c.loop-config.ends.items c.args.seen.now
    c.loop-config.config-index c.loop-config-test.false (λ e t. t) c.loop-config.invariant
