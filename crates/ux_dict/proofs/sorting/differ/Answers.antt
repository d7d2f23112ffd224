use Rattle.std.proofs.Common.{arith, sym, ◌∙◌}
use Rattle.std.proofs.lemmas.List.{get_or_default}
use Rattle.ux_dict.proofs.RisingLemmas.{differ_more}
use Rattle.ux_dict.proofs.sorting.differ.Goals as goal

pub loop-place-init : goal.loop-place-init
loop-place-init c = λ i j d lt below. absurd (omega (arith, lt, below))

pub loop-place-preserved : goal.loop-place-preserved
loop-place-preserved c =
    let run = c.args.run.now in
    let place = c.loop-place.place in
    let entry = c.index-run-place.result in
    let within = c.loop-place-test.true in
    differ_more run place entry within
    (λ d. get_or_default run place d entry within ∙ sym c.index-run-place.is)
    c.loop-place.invariant (sym c.contains.ensures.value ∙ c.if-contains.false)
