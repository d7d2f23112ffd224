use Rattle.ux_locate.specs.Finding.{setting_in}
use Rattle.ux_chart_contexts.proofs.ToldLemmas.{chart_told}
use Rattle.ux_locate.proofs.by_start.hits_in_chart.Goals as goal

pub hits_by_ends-requires-clause-told : goal.hits_by_ends-requires-clause-told
hits_by_ends-requires-clause-told c =
    chart_told c.args.chart.now (setting_in c.args.search.now) c.requires.chart c.requires.made
    c.of-2.result c.of-2.ensures
