use Rattle.std.proofs.Common.{ℕ, get_or}
use Rattle.std.specs.Prelude.{Contains}
use Rattle.std.proofs.lemmas.List.{get_or_default}
use Rattle.std.proofs.lemmas.List.Elements.{Contains-get_or}
use Rattle.ux_subsets.proofs.CollectingLemmas.{collected_none, collected_more}
use Rattle.ux_monitor.specs.declared.rule.Step.{Step}
use Rattle.ux_monitor.specs.Steps.{Marks, MarksTo}
use Rattle.ux_monitor.proofs.NotingLemmas.{gathered_more}
use Rattle.ux_monitor.proofs.moving.push_marked.Goals as goal

pub loop-place-init : goal.loop-place-init
loop-place-init c = collected_none _ _ c.args.ahead.now.items c.args.from.now

pub loop-place-preserved : goal.loop-place-preserved
loop-place-preserved c =
    let from = c.args.from.now in
    let i = c.loop-place.place-index in
    let w = get_or from i 0 in
    let row = c.leaving.result.now in
    let leaves = c.leaving.ensures in
    collected_more _ _ c.args.ahead.now.items c.loop-place.ahead.items
    c.push_row_marked.new.ahead.items from i w
    (λ k. (s : Step) × Contains row s × MarksTo c.args.mark s k) c.loop-place-test.true
    (get_or_default from i 0 w c.loop-place-test.true)
    (λ k l. (w, Contains-get_or from i 0 c.loop-place-test.true, l))
    c.loop-place.invariant
    (λ k. (
      λ m. (m.0, (leaves m.0).0 m.1, m.2),
      λ m. (m.0, (leaves m.0).1 m.1, m.2),
    ))
    c.in_ok-push_row_marked.ensures.exact

pub returns : goal.returns
returns c =
    gathered_more (λ (p : ℕ) (k : ℕ). Marks c.args.steps.now c.args.mark p k)
    c.args.ahead.now.items c.loop-place.ahead.items c.args.from.now c.loop-place.place-index
    c.loop-place-test.false c.loop-place.invariant
