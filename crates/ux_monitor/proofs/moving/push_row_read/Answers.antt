use Rattle.std.proofs.Common.{ℕ, get_or}
use Rattle.std.proofs.lemmas.List.{get_or_default}
use Rattle.std.proofs.lemmas.List.Elements.{Contains-get_or}
use Rattle.ux_subsets.proofs.CollectingLemmas.{collected_none, collected_more}
use Rattle.ux_monitor.specs.declared.rule.Step.{Step}
use Rattle.ux_monitor.specs.declared.rule.Sign.TheVariants.{Free}
use Rattle.ux_monitor.specs.Steps.{ReadsTo}
use Rattle.ux_monitor.proofs.NotingLemmas.{gathered_more}
use Rattle.ux_monitor.proofs.moving.push_row_read.Goals as goal

pub loop-step-init : goal.loop-step-init
loop-step-init c = collected_none _ _ c.args.ahead.now.items c.args.row.now

pub loop-step-preserved : goal.loop-step-preserved
loop-step-preserved c =
    let none : Step = record { from = 0; to = 0; sign = Free } in
    let row = c.args.row.now in
    let i = c.loop-step.step-index in
    let w = get_or row i none in
    collected_more _ _ c.args.ahead.now.items c.loop-step.ahead.items c.note_read.new.ahead.items
    row i w (λ k. ReadsTo c.args.passed.now.keys w k) c.loop-step-test.true
    (get_or_default row i none w c.loop-step-test.true)
    (λ k l. (w, Contains-get_or row i none c.loop-step-test.true, l))
    c.loop-step.invariant (λ k. (λ h. h, λ h. h)) c.in_ok-note_read.ensures

pub returns : goal.returns
returns c =
    gathered_more (λ (w : Step) (k : ℕ). ReadsTo c.args.passed.now.keys w k) c.args.ahead.now.items
    c.loop-step.ahead.items c.args.row.now c.loop-step.step-index
    c.loop-step-test.false c.loop-step.invariant
