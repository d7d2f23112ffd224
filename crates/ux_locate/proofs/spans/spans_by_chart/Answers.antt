use Rattle.std.proofs.Common.{subst}
use Rattle.std.specs.Prelude.{IfOk}
use Rattle.ux_walk.specs.Settings.{Setting}
use Rattle.ux_locate.specs.Finding.{IsFound, IsSpanFrom}
use Rattle.ux_locate.specs.Keeping.{AreKept, first_in, last_in}
use Rattle.ux_locate.proofs.spans.spans_by_chart.Goals as goal

pub returns : goal.returns
returns c =
    subst (λ (s : Setting). IfOk c.spans_in_chart.result (λ spans.
    AreKept c.args.policy first_in last_in (IsFound c.args.masked.now.text.now (IsSpanFrom s)) spans.items))
    c.in_ok-chart.ensures.setting c.spans_in_chart.ensures
