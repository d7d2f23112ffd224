use Rattle.std.proofs.Common.{ℕ, List, sym, ◌∙◌, subst}
use Rattle.std.proofs.lemmas.Bool.{false≢true}
use Rattle.ux_outputs.specs.declared.event.Event.{Event}
use Rattle.ux_walk.specs.Settings.{Derives, Setting}
use Rattle.ux_locate.specs.Finding.{setting_in}
use Rattle.ux_chart_contexts.proofs.ToldLemmas.{chart_told}
use Rattle.ux_locate.proofs.ByChartLemmas.{hits_added, hits_of_no_end, hits_of_no_start}
use Rattle.ux_locate.proofs.by_chart.add_hits.Goals as goal

pub best_hits-requires-clause-told : goal.best_hits-requires-clause-told
best_hits-requires-clause-told c =
    chart_told c.args.chart.now (setting_in c.args.search.now) c.requires.chart c.requires.made
    c.of-contexts.result c.of-contexts.ensures

pub returns-then-not-is_start-clause-hits : goal.returns-then-not-is_start-clause-hits
returns-then-not-is_start-clause-hits c =
    hits_of_no_start c.args.search.now c.args.start c.args.hits.now.items
    (λ starts. false≢true (sym c.if-not-is_start.true ∙ c.is_start.ensures.1 starts))

pub returns-then-not-may_derive-clause-hits : goal.returns-then-not-may_derive-clause-hits
returns-then-not-may_derive-clause-hits c =
    let start = c.args.start in
    hits_of_no_end c.args.search.now start c.args.hits.now.items
    (subst (λ (s : Setting). (end : ℕ) (events : List Event) → Derives s start end events → ⊥)
    c.requires.made (c.may_derive.ensures c.if-not-may_derive.true))

pub returns-clause-hits : goal.returns-clause-hits
returns-clause-hits c =
    hits_added c.args.search.now c.args.start c.args.hits.now.items c.in_ok-found.found.items
    c.append.new.self.items (c.is_start.ensures.0 c.if-not-is_start.false)
    c.in_ok-found.ensures.best c.in_ok-append.ensures.items
