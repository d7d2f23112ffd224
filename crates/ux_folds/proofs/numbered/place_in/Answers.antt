use Rattle.std.proofs.Common.{arith, ◌≡◌, ◌∙◌, ap, get_or, sym, true}
use Rattle.std.proofs.lemmas.List.{get_or_default}
use Rattle.ux_folds.proofs.NumberedLemmas.{found_first, found_nowhere, none_passes}
use Rattle.ux_folds.proofs.numbered.place_in.Goals as goal

pub returns-then-eq-clause-index : goal.returns-then-eq-clause-index
returns-then-eq-clause-index g c =
    let eq = g.T.PartialEq.eq c.args.value in
    let values = c.args.values.now in
    let here : eq (get_or values c.loop-place.place c.args.value) ≡ true =
    ap eq (get_or_default values c.loop-place.place c.args.value c.index-values-place.result
    c.loop-place-test.true ∙ sym c.index-values-place.is) ∙ (sym c.eq.ensures ∙ c.if-eq.true) in
    found_first eq values c.loop-place.place c.args.value c.loop-place-test.true
    c.loop-place.invariant here

pub returns-clause-index : goal.returns-clause-index
returns-clause-index g c = found_nowhere (g.T.PartialEq.eq c.args.value) c.args.values.now
    c.args.value (λ k h. c.loop-place.invariant k (omega arith))

pub returns-clause-found : goal.returns-clause-found
returns-clause-found g c = none_passes (g.T.PartialEq.eq c.args.value) c.args.values.now
    c.args.value (λ k h. c.loop-place.invariant k (omega arith))
