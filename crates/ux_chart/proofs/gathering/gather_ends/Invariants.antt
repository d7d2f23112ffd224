use Rattle.std.proofs.Common.{take}
use Rattle.std.specs.Prelude.{Contains}
use Rattle.ux_chart.specs.declared.config.Config.{Config}
use Rattle.ux_chart.specs.Search.{EndsAt}
use Rattle.ux_chart.proofs.Collecting.{IsCollected}
use Rattle.ux_chart.proofs.gathering.gather_ends.Given as goal

abbrev pub invariant-loop-config : goal.invariant-loop-config
invariant-loop-config l = IsCollected
    (λ j. (w : Config) × Contains l.seen w × EndsAt l.net l.graph w j)
    (λ (w : Config) j. EndsAt l.net l.graph w j)
    l.fn.ends.items l.ends.items (take l.config-index l.seen)
