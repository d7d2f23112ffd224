use Rattle.std.proofs.Common.{get_or}
use Rattle.std.proofs.lemmas.List.{get_or_default}
use Rattle.ux_chart.specs.declared.config.Config.{Config}
use Rattle.ux_chart.proofs.Searching.{adds_more}
use Rattle.ux_chart.proofs.seen.Seen.add_all.Goals as goal

pub loop-config-preserved : goal.loop-config-preserved
loop-config-preserved c =
    let none : Config = record { state = 0; at = 0 } in
    let k = get_or c.args.found.now c.loop-config.config-index none in
    adds_more c.args.self.now c.args.found.now c.loop-config.self c.add.new.self
    c.loop-config.config-index k c.loop-config-test.true
    (get_or_default c.args.found.now c.loop-config.config-index none k c.loop-config-test.true)
    c.loop-config.invariant c.in_ok-add.ensures
