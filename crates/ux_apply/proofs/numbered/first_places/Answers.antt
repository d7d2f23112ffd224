use Rattle.std.proofs.Common.{arith, ap, ◌∙◌}
use Rattle.ux_apply.proofs.FirstLemmas.{first-end, first-more, first-same}
use Rattle.ux_apply.proofs.numbered.first_places.Goals as goal
use Rattle.ux_apply.proofs.numbered.first_places.Goals.{then-len-number+in_ok-push, else-len-number}

pub loop-place-preserved : goal.loop-place-preserved
loop-place-preserved c =
    let tokens = c.args.text.now in
    let i = c.loop-place.place in
    let old = c.loop-place.places.items in
    let more = c.if-len-number.places.items in
    let n = c.number-number.result in
    elim c.if-len-number.branch [
      | then-len-number+in_ok-push w ↦ first-more tokens i old c.loop-place.invariant more n
          (omega arith) (ap (λ v. v.items) w.places-is ∙ w.in_ok-push.ensures.items)
          c.number-number.ensures.place
      | else-len-number w ↦ first-same tokens i old c.loop-place.invariant more n (omega arith)
          (ap (λ v. v.items) w.places-is) c.number-number.ensures.place
    ]

pub returns : goal.returns
returns c =
    first-end c.args.text.now c.loop-place.place c.loop-place.places.items (omega arith)
    c.loop-place.invariant
