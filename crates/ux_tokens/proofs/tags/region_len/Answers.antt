use Rattle.std.proofs.Common.{◌≡◌, ℕ, ◌+◌, sym, ◌∙◌, ap, arith, length}
use Rattle.std.proofs.lemmas.Grind.{common_steps}
use Rattle.ux_tokens.proofs.RegionLemmas.{region_is, region_stop, region_whole}
use Rattle.ux_tokens.proofs.tags.region_len.Goals as goal

pub returns-then-ends_region-clause-region : goal.returns-then-ends_region-clause-region
returns-then-ends_region-clause-region c =
    let place = c.loop-place.place in
    let none : place + 0 ≡ place = omega arith in
    region_is c.args.text.now place
    (c.loop-place.invariant
    ∙ ap (λ (n : ℕ). place + n)
    (region_stop c.loop-place.protected c.args.text.now place c.loop-place-test.true
    (sym c.ends_region.ensures ∙ c.if-ends_region.true))
    ∙ none)

pub returns-clause-region : goal.returns-clause-region
returns-clause-region c =
    let text = c.args.text.now in
    let over = c.loop-place-test.false in
    let within = c.loop-place.auto.place-end in
    region_is text (length text)
    (region_whole c.loop-place.protected text c.loop-place.place c.loop-place.invariant
    (omega (arith, over, within)))

pub loop-place-init : goal.loop-place-init
loop-place-init c = grind (arith, common_steps)

pub bounds-text-place : goal.bounds-text-place
bounds-text-place c = grind (arith, common_steps)

pub returns-then-ends_region-clause-within : goal.returns-then-ends_region-clause-within
returns-then-ends_region-clause-within c = grind (arith, common_steps)

pub loop-place-preserved : goal.loop-place-preserved
loop-place-preserved c = grind (arith, common_steps)

pub returns-clause-within : goal.returns-clause-within
returns-clause-within c = grind (arith, common_steps)
