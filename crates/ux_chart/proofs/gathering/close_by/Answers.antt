use Rattle.std.proofs.Common.{◌≡◌, sym, refl}
use Rattle.ux_net.specs.declared.label.Label.TheVariants.{ContextEnd}
use Rattle.ux_chart.proofs.GatheringLemmas.{one_more}
use Rattle.ux_chart.proofs.gathering.close_by.Goals as goal

pub returns-in-ContextEnd : goal.returns-in-ContextEnd
returns-in-ContextEnd c =
    one_more (λ j. (c.args.edge.now.label ≡ ContextEnd) × (c.args.edge.now.target ≡ j))
    c.args.closers.now.items c.push.new.self.items c.args.edge.now.target
    c.in_ok-push-in-ContextEnd.ensures.items (c.in-ContextEnd.is, refl) (λ e t. sym t.1)
