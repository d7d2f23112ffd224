use Rattle.std.proofs.Common.{◌≡◌, ◌∙◌, ℕ, List, ap, length, subst, sym}
use Rattle.std.specs.Prelude.{◌↔◌, Contains}
use Rattle.std.proofs.lemmas.Bool.{false≢true}
use Rattle.std.proofs.lemmas.Result.{IfOk-weaker}
use Rattle.ux_chart_contexts.proofs.ToldLemmas.{chart_told}
use Rattle.ux_outputs.specs.declared.event.Event.{Event}
use Rattle.ux_walk.specs.Settings.{Derives, Setting, masked_setting}
use Rattle.ux_morpho.proofs.PuttingLemmas.{puts_nothing, puts_out}
use Rattle.ux_morpho.proofs.outputs.outputs_by.Goals as goal

pub walk-requires-clause-told : goal.walk-requires-clause-told
walk-requires-clause-told c =
    chart_told c.args.chart.now (masked_setting c.args.masked.now) c.requires.chart c.requires.made
    c.of-contexts.result c.of-contexts.ensures

pub rendered-requires : goal.rendered-requires
rendered-requires c end events inside =
    let found = c.in_ok-found.ensures.follows end events
    (subst (λ (l : List (ℕ × List Event)). Contains l (end, events)) c.deref.ensures.value inside) in
    record { end = end; follows = found.0; within = found.1 }

pub returns-then-not-may_end : goal.returns-then-not-may_end
returns-then-not-may_end c =
    let setting = masked_setting c.args.masked.now in
    puts_nothing setting (λ derives. false≢true (sym c.if-not-may_end.true
    ∙ c.may_end.ensures.1 (subst (λ (s : Setting). (events : List Event)
    × Derives s 0 c.len-end.result events) (sym c.requires.made)
    (subst (λ (end : ℕ). (events : List Event) × Derives setting 0 end events)
    (sym c.len-end.ensures.len) derives)))) c.new.result.items c.new.ensures.items

pub returns : goal.returns
returns c =
    let setting = masked_setting c.args.masked.now in
    IfOk-weaker c.rendered.result _ _
    (λ outputs are. puts_out setting c.deref.result.now
    (λ end events. subst (λ (l : List (ℕ × List Event)). Contains l (end, events)
    ↔ Derives setting 0 end events) (sym c.deref.ensures.value)
    (c.in_ok-found.ensures.exactly end events)) outputs.items are) c.rendered.ensures
