use Rattle.std.proofs.Common.{sym, refl, rules}
use Rattle.ux_chart.specs.Search.{EndsAt}
use Rattle.ux_chart.proofs.GatheringLemmas.{one_more}
use Rattle.ux_chart.proofs.gathering.end_at.Goals as goal

pub returns : goal.returns
returns c =
    one_more (λ j. EndsAt c.args.net.now c.args.graph c.args.config j) c.args.ends.now.items
    c.push.new.self.items c.args.config.at c.in_ok-push.ensures.items (
      record {
        state = c.in-Some.state.now;
        found = sym c.in-Some.ensures;
        final = search rules;
      },
      refl,
    ) (λ e t. sym t.1)
