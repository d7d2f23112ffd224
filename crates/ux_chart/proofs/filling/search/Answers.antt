use Rattle.std.proofs.Common.{ℕ, List, ◌↔◌, subst}
use Rattle.std.specs.Prelude.{Contains}
use Rattle.ux_chart.specs.declared.config.Config.{Config}
use Rattle.ux_chart.specs.Search.{EndsAt, ClosesInto}
use Rattle.ux_chart.proofs.GatheringLemmas.{answered}
use Rattle.ux_chart.proofs.filling.search.Goals as goal

pub returns : goal.returns
returns g c =
    let net = c.args.net.now in
    let part = c.args.part.now in
    let ends = c.ends_in.new.ends.items in
    let closers = c.closers_in.new.closers.items in
    answered (g.B.Basis.input c.args.basis.now) net c.args.parts.now part.graph part.first
    c.args.begun.at c.reach.new.seen c.in_ok-reach.ensures ends closers
    (subst (λ (l : List Config). (j : ℕ) →
    Contains ends j ↔ ((w : Config) × Contains l w × EndsAt net part.graph w j))
    c.as_slice.ensures c.in_ok-ends_in.ensures.all)
    (subst (λ (l : List Config). (j : ℕ) →
    Contains closers j ↔ ((w : Config) × Contains l w × ClosesInto net part.graph w j))
    c.as_slice-2.ensures c.in_ok-closers_in.ensures.all)
    c.in_ok-ends_in.ensures.ascending c.in_ok-closers_in.ensures.ascending
