use Rattle.std.proofs.Common.{sym, ◌∙◌}
use Rattle.std.proofs.lemmas.Bool.{false≢true}
use Rattle.ux_locate.proofs.by_chart.may_derive.Goals as goal

pub returns : goal.returns
returns c none end events derives =
    false≢true (sym none ∙ c.derives_some.ensures.1 (end, events, derives))
