use Rattle.std.proofs.Common.{◌↔◌, ℕ, subst}
use Rattle.std.specs.Prelude.{Contains}
use Rattle.ux_chart_contexts.specs.Telling.{Levelled, tells_in}
use Rattle.ux_chart_contexts.proofs.contexts.ChartContextsContexts.closers.Goals as goal

pub returns : goal.returns
returns c = subst (λ (t : Levelled). (n : ℕ) → Contains c.closers.result.now n
    ↔ (tells_in t).contexts c.args.graph c.args.edge.now.label c.args.edge.now.target c.args.at n)
    c.self.view_is c.closers.ensures.exactly
