use Rattle.std.proofs.Common.{ℕ}
use Rattle.std.specs.Prelude.{Contains}
use Rattle.ux_chart.specs.declared.config.Config.{Config}
use Rattle.ux_chart.specs.Search.{ClosesInto}
use Rattle.ux_chart.proofs.GatheringLemmas.{gathered}
use Rattle.ux_chart.proofs.gathering.closers_in.Goals as goal

pub returns-clause-all : goal.returns-clause-all
returns-clause-all c =
    gathered (λ (j : ℕ). (w : Config) × Contains c.args.seen.now w
    × ClosesInto c.args.net.now c.args.graph w j)
    c.clear.new.self.items c.gather_closers.new.closers.items c.order_states.new.states.items
    c.clear.ensures.items c.in_ok-gather_closers.ensures c.order_states.ensures.same
