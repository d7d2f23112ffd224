use Rattle.std.proofs.Common.{ℕ}
use Rattle.std.specs.Prelude.{Contains}
use Rattle.ux_chart.specs.declared.config.Config.{Config}
use Rattle.ux_chart.specs.Search.{EndsAt}
use Rattle.ux_chart.proofs.GatheringLemmas.{gathered}
use Rattle.ux_chart.proofs.gathering.ends_in.Goals as goal

pub returns-clause-all : goal.returns-clause-all
returns-clause-all c =
    gathered (λ (j : ℕ). (w : Config) × Contains c.args.seen.now w
    × EndsAt c.args.net.now c.args.graph w j)
    c.clear.new.self.items c.gather_ends.new.ends.items c.order_positions.new.positions.items
    c.clear.ensures.items c.in_ok-gather_ends.ensures c.order_positions.ensures.same
